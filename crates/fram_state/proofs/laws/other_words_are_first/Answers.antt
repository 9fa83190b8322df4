use Rattle.fram_state.proofs.Others.{other_first}
use Rattle.fram_state.proofs.laws.other_words_are_first.Goals as goal

pub returns : goal.returns
returns c = other_first
