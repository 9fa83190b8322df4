use Rattle.std.proofs.Common.{◌≡◌, drop, map}
use Rattle.task_ast.specs.View.{task_of}
use Rattle.task_check.specs.Typed.{types_of}
use Rattle.task_check.specs.Occurrences.{task_names}
use Rattle.task_check.proofs.collect.task_names.Given as goal

abbrev pub invariant-loop-i : goal.invariant-loop-i
invariant-loop-i l = l.names.items ≡ task_names (types_of l.types) (map task_of (drop l.i l.tasks)) l.initial.names.items
