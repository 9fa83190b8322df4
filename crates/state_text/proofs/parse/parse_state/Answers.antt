use Rattle.text_parts.specs.Lines.{lines}
use Rattle.state_text.proofs.Texts.{meaning_is}
use Rattle.state_text.proofs.parse.parse_state.Goals as goal

pub returns-clause-meaning : goal.returns-clause-meaning
returns-clause-meaning c = meaning_is c.read_state.result (lines c.args.text.now) c.read_state.ensures
