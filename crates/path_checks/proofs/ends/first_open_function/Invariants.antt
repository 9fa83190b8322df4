use Rattle.std.proofs.Common.{drop, map}
use Rattle.task_ast.specs.View.{function_of, program_of}
use Rattle.task_ast.specs.Calls.{CallsAreKnown}
use Rattle.path_checks.specs.Firsts.{IsFirst, SomeOf}
use Rattle.path_checks.specs.Ends.{OpenAt}
use Rattle.path_checks.proofs.ends.first_open_function.Given as goal

abbrev pub invariant-loop-i : goal.invariant-loop-i
invariant-loop-i l = CallsAreKnown (program_of l.source) → IsFirst l.first (λ s. SomeOf (map function_of (drop l.i l.source.functions.items))
    (λ f. OpenAt (map function_of l.source.functions.items) f.name f.body s))
