use Rattle.layout_facts.proofs.laws.each_is_one_word.Goals as goal
use Rattle.layout_facts.proofs.Homes.{each_is_one_word}

pub returns : goal.returns
returns c = each_is_one_word
