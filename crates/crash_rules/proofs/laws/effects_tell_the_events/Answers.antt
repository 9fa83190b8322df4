use Rattle.crash_rules.proofs.Events.{events_of_instructions}
use Rattle.crash_rules.proofs.laws.effects_tell_the_events.Goals as goal

pub returns : goal.returns
returns c = events_of_instructions
