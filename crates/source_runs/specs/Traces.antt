-- Traces whose numbers are as their types say, and what a board may hold of one.
use Rattle.std.specs.Prelude.{ℕ, ◌<◌, ◌≤◌, List, length, All}
use Rattle.energy_trace.specs.Ranges.{IsCharge, IsEvent}
use Rattle.energy_trace.specs.TraceValue.{Event, TraceValue, IsTrace}

-- a trace within its limits, whose charges and events are so, and whose readings are words
pub record IsTraceOfWords (t : TraceValue) : Type 0 where
  pub trace : IsTrace t
  pub charges : All IsCharge t.charges
  pub readings : All (λ w. w < 0x10000) t.readings
  pub events : All IsEvent t.events

-- readings and events that a board may hold: words, and no more than a trace may have
pub record AreInputs (readings : List ℕ) (events : List Event) : Type 0 where
  pub readings_are_words : All (λ w. w < 0x10000) readings
  pub few_readings : length readings ≤ 262144
  pub events_are_words : All (λ e. e.1 < 0x10000) events
  pub few_events : length events ≤ 65536
