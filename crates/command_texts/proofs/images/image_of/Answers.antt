use Rattle.command_texts.proofs.ImageLaws.{fails_image}
use Rattle.command_texts.proofs.images.image_of.Goals as goal

pub returns-in-Err-clause-refused : goal.returns-in-Err-clause-refused
returns-in-Err-clause-refused c = fails_image _ _ _ _ c.in-Err.ensures.value c.image_failure.ensures
