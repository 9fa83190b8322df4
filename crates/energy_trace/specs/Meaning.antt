-- When lines are a trace, and which fault is the first, with no order of reading in it.
use Rattle.std.specs.Prelude.{◌≡◌, ℕ, ◌+◌, ◌<◌, ◌⊎◌, true, false, List, [], ◌∷◌, ◌++◌, length, map, Option, Some, None, Ok, Err, Result}
use Rattle.energy_trace.specs.declared.charge.Charge.{Charge}
use Rattle.energy_trace.specs.declared.fault.TraceFault.{TraceFault}
use Rattle.energy_trace.specs.declared.fault.TraceFault.TheVariants.{BadLine, TooMany, Memory}
use Rattle.energy_trace.specs.TraceValue.{TraceValue, Event, charge_count, IsTrace}
use Rattle.energy_trace.specs.Line.{LineMeaning, nothing, charge, readings, event, line_says}
use Rattle.energy_trace.specs.Reading.{with_line, is_in_order}

-- the charges of lines, in order
abbrev pub all_charges : List LineMeaning → List Charge
all_charges [] = []
all_charges (nothing ∷ ms) = all_charges ms
all_charges (charge c ∷ ms) = c ∷ all_charges ms
all_charges (readings ws ∷ ms) = all_charges ms
all_charges (event e ∷ ms) = all_charges ms

-- the readings of lines, in order
abbrev pub all_readings : List LineMeaning → List ℕ
all_readings [] = []
all_readings (nothing ∷ ms) = all_readings ms
all_readings (charge c ∷ ms) = all_readings ms
all_readings (readings ws ∷ ms) = ws ++ all_readings ms
all_readings (event e ∷ ms) = all_readings ms

-- the events of lines, in order
abbrev pub all_events : List LineMeaning → List Event
all_events [] = []
all_events (nothing ∷ ms) = all_events ms
all_events (charge c ∷ ms) = all_events ms
all_events (readings ws ∷ ms) = all_events ms
all_events (event e ∷ ms) = e ∷ all_events ms

-- each line is one of a trace, the trace is their charges, their readings and their events, and it is within the limits
pub record AreLinesOf (ls : List (List ℕ)) (t : TraceValue) : Type 0 where
  pub meanings : List LineMeaning
  pub lines : map line_says ls ≡ map Some meanings
  pub charges : t.charges ≡ all_charges meanings
  pub readings : t.readings ≡ all_readings meanings
  pub events : t.events ≡ all_events meanings
  pub limits : IsTrace t

-- the line is no line of a trace, or its event arises before the one in front of it
abbrev pub IsBadLine : TraceValue → Option LineMeaning → Type 0
IsBadLine t said = (said ≡ None) ⊎ ((m : LineMeaning) × (said ≡ Some m) × (is_in_order t m ≡ false))

-- the line is one of a trace in its order, and with it there are too many charges, readings or events
abbrev pub IsTooMany : TraceValue → Option LineMeaning → Type 0
IsTooMany t said = (m : LineMeaning) × (said ≡ Some m) × (is_in_order t m ≡ true)
    × ((1000000 < charge_count (with_line t m).charges) ⊎ ((262144 < length (with_line t m).readings) ⊎ (65536 < length (with_line t m).events)))

-- the lines before the n-th are a trace, and the n-th has a fault behind it
pub record FaultAt (ls : List (List ℕ)) (n : ℕ) (IsFault : TraceValue → Option LineMeaning → Type 0) : Type 0 where
  pub before : List (List ℕ)
  pub line : List ℕ
  pub behind : List (List ℕ)
  pub made : ls ≡ before ++ line ∷ behind
  pub number : n ≡ length before + 1
  pub trace : TraceValue
  pub read : AreLinesOf before trace
  pub fault : IsFault trace (line_says line)

-- what lines come to: a trace that they are, or the first fault; nothing is said where memory was refused
abbrev pub IsMeaningOf : List (List ℕ) → Result TraceValue TraceFault → Type 0
IsMeaningOf ls (Ok t) = AreLinesOf ls t
IsMeaningOf ls (Err (BadLine n)) = FaultAt ls n IsBadLine
IsMeaningOf ls (Err (TooMany n)) = FaultAt ls n IsTooMany
IsMeaningOf ls (Err Memory) = Unit {0}
