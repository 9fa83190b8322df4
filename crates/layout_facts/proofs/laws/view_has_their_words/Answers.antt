use Rattle.layout_facts.proofs.laws.view_has_their_words.Goals as goal
use Rattle.layout_facts.proofs.Views.{view_has_their_words}

pub returns : goal.returns
returns c = view_has_their_words
