use Rattle.std.proofs.Common.{◌≡◌, ◌<◌, ◌++◌, ℕ, drop, map, get_or}
use Rattle.text_parts.specs.Printed.{printed}
use Rattle.energy_trace.specs.TraceValue.{Event}
use Rattle.energy_trace.specs.Text.{event_words}
use Rattle.energy_trace.specs.Ranges.{IsEvent}
use Rattle.energy_trace.proofs.print.push_events.Given as goal

abbrev pub invariant-loop-event : goal.invariant-loop-event
invariant-loop-event l = record {
  text : l.out.items ++ printed (map event_words (drop l.event-index l.events)) ≡ l.fn.out.items ++ printed (map event_words l.events);
  ranges : (k : ℕ) (d : Event) → k < l.event-index → IsEvent (get_or l.events k d);
}
