use Rattle.text_parts.specs.Lines.{lines}
use Rattle.image_text.proofs.Meanings.{meaning_is}
use Rattle.image_text.proofs.parse.parse_image.Goals as goal

pub returns-clause-meaning : goal.returns-clause-meaning
returns-clause-meaning c = meaning_is c.read_image.result (lines c.args.text.now) c.read_image.ensures
