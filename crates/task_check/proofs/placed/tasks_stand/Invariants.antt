use Rattle.std.proofs.Common.{◌≡◌, drop, map}
use Rattle.task_ast.specs.View.{task_of}
use Rattle.task_check.specs.Placed.{tasks_stand}
use Rattle.task_check.proofs.placed.tasks_stand.Given as goal

abbrev pub invariant-loop-i : goal.invariant-loop-i
invariant-loop-i l = l.all ≡ tasks_stand l.known (map task_of (drop l.i l.tasks))
