-- When lines are a schedule, and which fault is the first, with no order of reading in it.
use Rattle.std.specs.Prelude.{◌≡◌, ℕ, ◌+◌, ◌≤◌, List, [], ◌∷◌, ◌++◌, length, map, Option, Some, None, Ok, Err, Result}
use Rattle.radio_link.specs.declared.entry.Entry.{Entry}
use Rattle.radio_link.specs.declared.fault.ScheduleFault.{ScheduleFault}
use Rattle.radio_link.specs.declared.fault.ScheduleFault.TheVariants.{BadLine, TooMany, Memory}
use Rattle.radio_link.specs.Line.{LineMeaning, nothing, entry, line_says}

-- the entries of lines, in order
abbrev pub entries_of : List LineMeaning → List Entry
entries_of [] = []
entries_of (nothing ∷ ms) = entries_of ms
entries_of (entry e ∷ ms) = e ∷ entries_of ms

-- each line is one of a schedule, the schedule has their entries, and these are few enough
pub record AreLinesOf (ls : List (List ℕ)) (es : List Entry) : Type 0 where
  pub meanings : List LineMeaning
  pub lines : map line_says ls ≡ map Some meanings
  pub entries : es ≡ entries_of meanings
  pub few : length es ≤ 65536

-- the line is no line of a schedule
abbrev pub IsBadLine : List Entry → Option LineMeaning → Type 0
IsBadLine es said = said ≡ None

-- the line has an entry for which there is no room
abbrev pub IsTooMany : List Entry → Option LineMeaning → Type 0
IsTooMany es said = (e : Entry) × (said ≡ Some (entry e)) × (length es ≡ 65536)

-- the lines before the n-th are a schedule, and the n-th has a fault behind it
pub record FaultAt (ls : List (List ℕ)) (n : ℕ) (IsFault : List Entry → Option LineMeaning → Type 0) : Type 0 where
  pub before : List (List ℕ)
  pub line : List ℕ
  pub behind : List (List ℕ)
  pub made : ls ≡ before ++ line ∷ behind
  pub number : n ≡ length before + 1
  pub entries : List Entry
  pub read : AreLinesOf before entries
  pub fault : IsFault entries (line_says line)

-- what lines come to: a schedule that they are, or the first fault; nothing is said where memory was refused
abbrev pub IsMeaningOf : List (List ℕ) → Result (List Entry) ScheduleFault → Type 0
IsMeaningOf ls (Ok es) = AreLinesOf ls es
IsMeaningOf ls (Err (BadLine n)) = FaultAt ls n IsBadLine
IsMeaningOf ls (Err (TooMany n)) = FaultAt ls n IsTooMany
IsMeaningOf ls (Err Memory) = Unit {0}
