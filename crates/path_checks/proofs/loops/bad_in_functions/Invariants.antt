use Rattle.std.proofs.Common.{drop, map}
use Rattle.task_ast.specs.View.{function_of}
use Rattle.path_checks.specs.Firsts.{IsFirst, SomeOf}
use Rattle.path_checks.specs.Loops.{BadLoopIn}
use Rattle.path_checks.proofs.loops.bad_in_functions.Given as goal

abbrev pub invariant-loop-i : goal.invariant-loop-i
invariant-loop-i l = IsFirst l.first (λ s. SomeOf (map function_of (drop l.i l.functions)) (λ f. BadLoopIn f.body s))
