use Rattle.event_handler.proofs.Begin.{handler_begins}
use Rattle.event_handler.proofs.laws.handler_begins.Goals as goal

pub returns : goal.returns
returns c = handler_begins
