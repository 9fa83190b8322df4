use Rattle.std.proofs.Common.{◌≡◌, map}
use Rattle.task_ast.specs.View.{statement_of, tested_of}
use Rattle.task_check.specs.LookedUp.{statement_back}
use Rattle.task_check.specs.Parts.{tested_back, list_variables, list_calls, list_targets, arms_variables, arms_calls, arms_targets}
use Rattle.task_check.proofs.build.+build.Given as goal

abbrev pub invariant-arms-loop-test : goal.invariant-arms-loop-test
invariant-arms-loop-test l = (map tested_back (map tested_of l.found.items) ≡ map tested_of l.yielded)
    × (l.names.used.variables.now ≡ arms_variables (map tested_of l.found.items) l.rest.used.variables.now)
    × (l.names.used.calls.now ≡ arms_calls (map tested_of l.found.items) l.rest.used.calls.now)
    × (l.names.targets.now ≡ arms_targets (map tested_of l.found.items) l.rest.targets.now)

abbrev pub invariant-block-loop-s : goal.invariant-block-loop-s
invariant-block-loop-s l = (map statement_back (map statement_of l.found.items) ≡ map statement_of l.yielded)
    × (l.names.used.variables.now ≡ list_variables (map statement_of l.found.items) l.rest.used.variables.now)
    × (l.names.used.calls.now ≡ list_calls (map statement_of l.found.items) l.rest.used.calls.now)
    × (l.names.targets.now ≡ list_targets (map statement_of l.found.items) l.rest.targets.now)
