use Rattle.pair_laws.proofs.Runs.{pairs_keep_words}
use Rattle.pair_laws.proofs.laws.pairs_keep_words.Goals as goal

pub returns : goal.returns
returns c = pairs_keep_words
