use Rattle.crash_rules.proofs.Theorems.{pending_spans_follow}
use Rattle.crash_rules.proofs.laws.one_charge_takes_readings_behind_a_commit.Goals as goal

pub returns : goal.returns
returns g c = pending_spans_follow g.S.Compiled.model g.S.Compiled.program
