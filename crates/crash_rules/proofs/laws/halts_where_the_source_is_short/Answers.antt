use Rattle.crash_rules.proofs.Theorems.{stops_short}
use Rattle.crash_rules.proofs.laws.halts_where_the_source_is_short.Goals as goal

pub returns : goal.returns
returns g c = stops_short g.S.Compiled.model g.S.Compiled.program
