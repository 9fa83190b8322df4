use Rattle.std.proofs.Common.{◌≡◌, take, map}
use Rattle.task_ast.specs.View.{task_of}
use Rattle.fram_state.specs.Suits.{planned_tasks}
use Rattle.fram_state.proofs.lines.are_planned.Given as goal

abbrev pub invariant-loop-i : goal.invariant-loop-i
invariant-loop-i l = take l.i l.tasks ≡ take l.i (planned_tasks l.text l.shared (map task_of l.declared) l.plans)
