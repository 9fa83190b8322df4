use Rattle.event_handler.proofs.Stages.{handler_goes_on}
use Rattle.event_handler.proofs.laws.handler_goes_on.Goals as goal

pub returns : goal.returns
returns c = handler_goes_on
