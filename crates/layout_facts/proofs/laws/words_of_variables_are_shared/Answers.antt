use Rattle.layout_facts.proofs.laws.words_of_variables_are_shared.Goals as goal
use Rattle.layout_facts.proofs.Homes.{words_of_variables_are_shared}

pub returns : goal.returns
returns c = words_of_variables_are_shared
