use Rattle.std.proofs.Common.{drop}
use Rattle.task_check.specs.Walks.{IsWalked}
use Rattle.task_check.proofs.walk.walk_names.Given as goal

abbrev pub invariant-loop-i : goal.invariant-loop-i
invariant-loop-i l = IsWalked l.source l.names (drop l.i l.names) l.walk
