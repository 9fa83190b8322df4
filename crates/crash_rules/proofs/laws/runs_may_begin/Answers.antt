use Rattle.crash_rules.proofs.Theorems.{runs_may_begin}
use Rattle.crash_rules.proofs.laws.runs_may_begin.Goals as goal

pub returns : goal.returns
returns g c = runs_may_begin g.S.Compiled.model
