use Rattle.compiled_states.proofs.laws.states_are_told.Goals as goal
use Rattle.compiled_states.proofs.States.{states_are_told}

pub returns : goal.returns
returns c = states_are_told
