use Rattle.undo_states.proofs.laws.start_and_tasks_give_the_laws.Goals as goal
use Rattle.undo_states.proofs.Theorems.{undo_keeps_the_laws}

pub returns : goal.returns
returns g c = undo_keeps_the_laws g.row.S.Denot
