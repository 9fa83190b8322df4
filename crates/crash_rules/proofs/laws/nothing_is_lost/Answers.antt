use Rattle.crash_rules.proofs.Theorems.{never_lost}
use Rattle.crash_rules.proofs.laws.nothing_is_lost.Goals as goal

pub returns : goal.returns
returns g c = never_lost g.S.Compiled.model
