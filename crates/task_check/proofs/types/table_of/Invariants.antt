use Rattle.std.proofs.Common.{drop}
use Rattle.task_check.specs.Tables.{HasTypes}
use Rattle.task_check.proofs.types.table_of.Given as goal

abbrev pub invariant-loop-i : goal.invariant-loop-i
invariant-loop-i l = HasTypes l.source (drop l.i l.shared) l.table
