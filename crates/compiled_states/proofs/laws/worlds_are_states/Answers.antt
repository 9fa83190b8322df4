use Rattle.compiled_states.proofs.laws.worlds_are_states.Goals as goal
use Rattle.compiled_states.proofs.States.{worlds_are_states}

pub returns : goal.returns
returns c = worlds_are_states
