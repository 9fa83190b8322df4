use Rattle.std.proofs.Common.{drop, length, map}
use Rattle.task_ast.specs.View.{function_of, task_of, program_of}
use Rattle.task_ast.specs.Calls.{CallsAreKnown}
use Rattle.path_checks.specs.Firsts.{IsFirst, SomeOf}
use Rattle.path_checks.specs.Unassigned.{ReadsUnassigned}
use Rattle.path_checks.proofs.unassigned.first_in_tasks.Given as goal

abbrev pub invariant-loop-i : goal.invariant-loop-i
invariant-loop-i l = CallsAreKnown (program_of l.source) → IsFirst l.first (λ s. SomeOf (map task_of (drop l.i l.source.tasks.items))
    (λ task. ReadsUnassigned (map function_of l.source.functions.items) 0 task.body s))
