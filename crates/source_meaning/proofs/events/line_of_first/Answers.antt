use Rattle.source_meaning.proofs.FirstEvent.{starts_within, has_event}
use Rattle.source_meaning.proofs.events.line_of_first.Goals as goal

pub line_at-requires-clause-within : goal.line_at-requires-clause-within
line_at-requires-clause-within c = starts_within c.args.text.now c.args.words.now c.args.at _ c.requires.order c.requires.first

pub returns : goal.returns
returns c =
    has_event c.args.text.now c.args.words.now c.args.at c.line_at.result _ c.requires.lexes c.requires.first c.line_at.ensures
