use Rattle.crash_rules.proofs.Theorems.{pending_sends}
use Rattle.crash_rules.proofs.laws.pending_words_are_sent_once.Goals as goal

pub returns : goal.returns
returns g c = pending_sends g.S.Compiled.model g.S.Compiled.program
