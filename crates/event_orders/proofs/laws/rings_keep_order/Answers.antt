use Rattle.event_orders.proofs.Runs.{rings_keep_order}
use Rattle.event_orders.proofs.laws.rings_keep_order.Goals as goal

pub returns : goal.returns
returns g c = rings_keep_order g.S.Compiled.program
