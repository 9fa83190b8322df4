use Rattle.std.proofs.Common.{◌≡◌, drop}
use Rattle.task_check.specs.Occurrences.{shared_names}
use Rattle.task_check.proofs.collect.shared_names.Given as goal

abbrev pub invariant-loop-i : goal.invariant-loop-i
invariant-loop-i l = l.names.items ≡ shared_names (drop l.i l.shared) l.initial.names.items
