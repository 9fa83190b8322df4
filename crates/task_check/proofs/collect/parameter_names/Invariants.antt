use Rattle.std.proofs.Common.{◌≡◌, drop}
use Rattle.task_check.specs.Occurrences.{parameter_names}
use Rattle.task_check.proofs.collect.parameter_names.Given as goal

abbrev pub invariant-loop-i : goal.invariant-loop-i
invariant-loop-i l = l.names.items ≡ parameter_names l.end l.i (drop l.i l.parameters) l.initial.names.items
