use Rattle.compiled_states.proofs.laws.states_stay.Goals as goal
use Rattle.compiled_states.proofs.States.{states_stay}

pub returns : goal.returns
returns c = states_stay
