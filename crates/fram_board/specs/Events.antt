-- The port EVENT, and the events that arise there between two steps.
use Rattle.std.specs.Prelude.{ℕ, ◌+◌, ◌^◌, ◌==◌, nat_le, nat_lt, Bool, true, false, if◌then◌else◌, List, [], ◌∷◌, Option, Some, None}
use Rattle.fram_board.specs.declared.events.Heard.{Heard}
use Rattle.fram_board.specs.declared.events.Heard.TheVariants as heard

-- the line on which events arise, and the port at its end, which holds one word
pub record EventLine : Type 0 where
  pub port : Option ℕ  -- the word in EVENT, where one waits there
  pub heard : Heard  -- what was read of EVENT since the last boundary
  pub coming : List (ℕ × ℕ)  -- the events that haven't arisen: behind how many steps of the run each does, and its word
  pub arisen : ℕ  -- how many arose
  pub missed : ℕ  -- how many of them were lost at the port
  pub made : ℕ  -- how many steps were made, as long as an event is to come

-- a line before anything arose
abbrev pub line_of_events : List (ℕ × ℕ) → EventLine
line_of_events events = record { port = None; heard = heard.Nothing; coming = events; arisen = 0; missed = 0; made = 0 }

-- whether a word waits in the port
abbrev pub is_full : Option ℕ → Bool
is_full (Some w) = true
is_full None = false

-- how many words that are
abbrev pub words_in : Option ℕ → ℕ
words_in (Some w) = 1
words_in None = 0

-- a word read at EVENT: 0 where the port is empty
abbrev pub port_word : Option ℕ → ℕ
port_word (Some w) = w
port_word None = 0

-- what was read of EVENT, with one read more
abbrev pub heard_again : Option ℕ → Heard → Heard
heard_again port heard.Nothing = heard.Once port
heard_again port (heard.Once taken) = heard.Again taken
heard_again port (heard.Again taken) = heard.Again taken

-- how many words the reads took
abbrev pub words_heard : Heard → ℕ
words_heard heard.Nothing = 0
words_heard (heard.Once taken) = words_in taken
words_heard (heard.Again taken) = words_in taken

-- a word read at EVENT takes what waits there
abbrev pub port_read : EventLine → EventLine
port_read q = record q { port = None; heard = heard_again q.port q.heard }

-- the port once this word arises: what waits there stays
abbrev pub port_behind : ℕ → Option ℕ → Option ℕ
port_behind w (Some v) = Some v
port_behind w None = Some w

-- an event arises, in front of these: it waits in the port, or is lost where that is full
abbrev pub arising : ℕ → List (ℕ × ℕ) → EventLine → EventLine
arising w coming q = record q { port = port_behind w q.port; coming = coming; arisen = q.arisen + 1; missed = q.missed + words_in q.port }

-- a word is brought beside the events that come: it waits in the port, or is lost where that is full; behind 2^61 of them it doesn't arise
abbrev pub bringing : ℕ → EventLine → EventLine
bringing w q = if nat_lt q.arisen (2 ^ 61) then arising w q.coming q else q

-- those of the events that come that are due arise, in order, up to the first that isn't
abbrev pub arising_due : List (ℕ × ℕ) → EventLine → EventLine
arising_due [] q = q
arising_due (e ∷ es) q = if nat_le e.0 q.made then arising_due es (arising e.1 es q) else q

-- the events that are due arise
abbrev pub arrived : EventLine → EventLine
arrived q = arising_due q.coming q

-- the steps made, with one more. None is counted above 4294967295, behind which no event arises, nor where none is to come
abbrev pub step_counted : List (ℕ × ℕ) → ℕ → ℕ
step_counted [] n = n
step_counted (e ∷ es) n = if n == 0xFFFFFFFF then n else n + 1

-- the line behind a step
abbrev pub line_behind_step : EventLine → EventLine
line_behind_step q = arrived (record q { heard = heard.Nothing; made = step_counted q.coming q.made })

-- the line behind a power-up, which empties the port: a word there is lost
abbrev pub line_behind_power_up : EventLine → EventLine
line_behind_power_up q = arrived (record q { port = None; heard = heard.Nothing; missed = q.missed + words_in q.port })
