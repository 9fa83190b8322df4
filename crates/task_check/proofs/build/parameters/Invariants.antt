use Rattle.std.proofs.Common.{◌≡◌, map, take}
use Rattle.task_check.specs.LookedUp.{parameter_back, parameter_variables}
use Rattle.task_check.proofs.build.parameters.Given as goal

abbrev pub invariant-loop-i : goal.invariant-loop-i
invariant-loop-i l = (map parameter_back l.found.items ≡ take l.i l.all)
    × (l.names.variables.now ≡ parameter_variables l.found.items l.rest.variables.now)
    × (l.names.calls.now ≡ l.rest.calls.now)
