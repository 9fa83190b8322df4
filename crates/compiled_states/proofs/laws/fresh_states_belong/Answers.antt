use Rattle.compiled_states.proofs.laws.fresh_states_belong.Goals as goal
use Rattle.compiled_states.proofs.States.{fresh_states_belong}

pub returns : goal.returns
returns c = fresh_states_belong
