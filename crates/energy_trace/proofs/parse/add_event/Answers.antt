use Rattle.std.proofs.Common.{sym}
use Rattle.text_parts.specs.Fields.{fields}
use Rattle.energy_trace.proofs.Steps.{event_has_word}
use Rattle.energy_trace.proofs.parse.add_event.Goals as goal

pub add_event-requires-clause-word : goal.add_event-requires-clause-word
add_event-requires-clause-word c = event_has_word (fields c.args.line.now) _ (sym c.in-Some.ensures)
