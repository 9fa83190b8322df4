use Rattle.crash_rules.proofs.Theorems.{sent_once}
use Rattle.crash_rules.proofs.laws.words_are_sent_once.Goals as goal

pub returns : goal.returns
returns g c = sent_once g.S.Compiled.model
