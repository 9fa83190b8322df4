use Rattle.std.proofs.Common.{List, length, map}
use Rattle.std.specs.Prelude.{All}
use Rattle.task_ast.specs.View.{task_of}
use Rattle.task_ast.specs.Paths.{CheckedFunction}
use Rattle.task_ast.specs.Calls.{BlockCallsBelow}
use Rattle.war_analysis.specs.Known.{AreSumsByVariable}
use Rattle.war_analysis.proofs.Steps.{PlansBelow}
use Rattle.war_analysis.proofs.analysis.task_plans.Given as goal

abbrev pub invariant-loop-task : goal.invariant-loop-task
invariant-loop-task l = (fs : List CheckedFunction) → AreSumsByVariable fs (length l.shared) l.sums
    → All (λ task. BlockCallsBelow (length fs) task.body) (map task_of l.tasks)
    → PlansBelow fs l.shared (map task_of l.tasks) l.task-index l.plans.items
