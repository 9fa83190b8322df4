use Rattle.compiled_states.proofs.laws.states_go_on.Goals as goal
use Rattle.compiled_states.proofs.States.{states_go_on}

pub returns : goal.returns
returns c = states_go_on
