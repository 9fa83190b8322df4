use Rattle.std.proofs.Common.{◌≡◌, drop, map}
use Rattle.task_ast.specs.View.{function_of}
use Rattle.task_check.specs.Typed.{types_of}
use Rattle.task_check.specs.Occurrences.{function_names}
use Rattle.task_check.proofs.collect.function_names.Given as goal

abbrev pub invariant-loop-i : goal.invariant-loop-i
invariant-loop-i l = l.names.items ≡ function_names (types_of l.types) (map function_of (drop l.i l.functions)) l.initial.names.items
