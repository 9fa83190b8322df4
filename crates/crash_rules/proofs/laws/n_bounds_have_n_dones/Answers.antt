use Rattle.crash_rules.proofs.Theorems.{progress_law}
use Rattle.crash_rules.proofs.laws.n_bounds_have_n_dones.Goals as goal

pub returns : goal.returns
returns g c = progress_law g.S.Compiled.model g.S.Compiled.program
