use Rattle.privatise.proofs.TasksPlaced.{TasksBelow, to_place}
use Rattle.privatise.proofs.tasks.place_tasks.Given as goal

abbrev pub invariant-loop-i : goal.invariant-loop-i
invariant-loop-i l = TasksBelow (to_place l.functions l.shared l.variables l.tasks l.plans l.address) l.i l.at l.layouts.items
