use Rattle.event_rules.proofs.Ring.{ring_holds_accepted}
use Rattle.event_rules.proofs.laws.ring_holds_accepted.Goals as goal

pub returns : goal.returns
returns g c = ring_holds_accepted g.S.Compiled.program
