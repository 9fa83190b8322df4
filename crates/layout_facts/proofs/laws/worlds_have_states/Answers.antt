use Rattle.layout_facts.proofs.laws.worlds_have_states.Goals as goal
use Rattle.layout_facts.proofs.States.{worlds_have_states}

pub returns : goal.returns
returns c = worlds_have_states
