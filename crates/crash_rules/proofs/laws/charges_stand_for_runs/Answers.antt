use Rattle.crash_rules.proofs.Theorems.{crash_theorem}
use Rattle.crash_rules.proofs.laws.charges_stand_for_runs.Goals as goal

pub returns : goal.returns
returns g c = crash_theorem g.S.Compiled.model g.S.Compiled.program
