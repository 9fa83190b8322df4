use Rattle.std.proofs.Common.{◌≡◌, map}
use Rattle.task_ast.specs.View.{function_of}
use Rattle.task_check.specs.LookedUp.{function_back, function_variables, function_calls, function_targets}
use Rattle.task_check.proofs.build.functions.Given as goal

abbrev pub invariant-loop-of : goal.invariant-loop-of
invariant-loop-of l = (map function_back (map function_of l.found.items) ≡ map function_of l.yielded)
    × (l.names.used.variables.now ≡ function_variables (map function_of l.found.items) l.rest.used.variables.now)
    × (l.names.used.calls.now ≡ function_calls (map function_of l.found.items) l.rest.used.calls.now)
    × (l.names.targets.now ≡ function_targets (map function_of l.found.items) l.rest.targets.now)
