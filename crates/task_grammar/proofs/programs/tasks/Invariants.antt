use Rattle.std.proofs.Common.{◌≡◌, length, map}
use Rattle.task_ast.specs.View.{task_of}
use Rattle.task_grammar.specs.Programs.{many, is_task, task, tasks}
use Rattle.task_grammar.proofs.programs.tasks.Given as goal

abbrev pub invariant-tasks : goal.invariant-tasks
invariant-tasks l = tasks l.fn.tokens ≡ many is_task task (map task_of l.found.items) l.rest

abbrev pub decreases-tasks : goal.decreases-tasks
decreases-tasks l = length l.rest
