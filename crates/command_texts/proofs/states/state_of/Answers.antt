use Rattle.command_texts.proofs.ImageLaws.{fails_state}
use Rattle.command_texts.proofs.states.state_of.Goals as goal

pub returns-in-Err-clause-refused : goal.returns-in-Err-clause-refused
returns-in-Err-clause-refused c = fails_state _ _ _ _ c.in-Err.ensures.value c.image_failure.ensures
