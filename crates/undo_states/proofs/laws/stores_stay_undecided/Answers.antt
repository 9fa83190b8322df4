use Rattle.undo_states.proofs.laws.stores_stay_undecided.Goals as goal
use Rattle.undo_states.proofs.Theorems.{element_stores_stay, shared_stores_stay}

pub returns : goal.returns
returns g c = record { elements = element_stores_stay g.row.S.Denot; scalars = shared_stores_stay g.row.S.Denot }
