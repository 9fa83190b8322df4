use Rattle.event_rules.proofs.InOrder.{runs_take_in_order}
use Rattle.event_rules.proofs.laws.runs_take_in_order.Goals as goal

pub returns : goal.returns
returns g c = runs_take_in_order g.S.Compiled.model g.S.Compiled.program
