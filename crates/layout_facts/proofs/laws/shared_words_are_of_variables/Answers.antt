use Rattle.layout_facts.proofs.laws.shared_words_are_of_variables.Goals as goal
use Rattle.layout_facts.proofs.Homes.{shared_words_are_of_variables}

pub returns : goal.returns
returns c = shared_words_are_of_variables
