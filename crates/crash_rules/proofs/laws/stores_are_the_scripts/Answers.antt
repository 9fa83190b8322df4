use Rattle.crash_rules.proofs.Theorems.{stores_only}
use Rattle.crash_rules.proofs.laws.stores_are_the_scripts.Goals as goal

pub returns : goal.returns
returns g c = stores_only g.S.Compiled.model g.S.Compiled.program g.S.Compiled.may_store
