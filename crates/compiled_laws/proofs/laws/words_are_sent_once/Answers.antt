use Rattle.compiled_laws.proofs.laws.words_are_sent_once.Goals as goal
use Rattle.compiled_laws.proofs.Theorems.{words_are_sent_once}

pub returns : goal.returns
returns c = words_are_sent_once
