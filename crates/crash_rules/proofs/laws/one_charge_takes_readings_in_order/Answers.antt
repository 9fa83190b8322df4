use Rattle.crash_rules.proofs.Theorems.{spans_follow}
use Rattle.crash_rules.proofs.laws.one_charge_takes_readings_in_order.Goals as goal

pub returns : goal.returns
returns g c = spans_follow g.S.Compiled.model g.S.Compiled.program
