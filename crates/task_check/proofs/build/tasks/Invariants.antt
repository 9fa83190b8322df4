use Rattle.std.proofs.Common.{◌≡◌, map}
use Rattle.task_ast.specs.View.{task_of}
use Rattle.task_check.specs.LookedUp.{task_back, task_variables, task_calls, task_targets}
use Rattle.task_check.proofs.build.tasks.Given as goal

abbrev pub invariant-loop-of : goal.invariant-loop-of
invariant-loop-of l = (map task_back (map task_of l.found.items) ≡ map task_of l.yielded)
    × (l.names.used.variables.now ≡ task_variables (map task_of l.found.items) l.rest.used.variables.now)
    × (l.names.used.calls.now ≡ task_calls (map task_of l.found.items) l.rest.used.calls.now)
    × (l.names.targets.now ≡ task_targets (map task_of l.found.items) l.rest.targets.now)
