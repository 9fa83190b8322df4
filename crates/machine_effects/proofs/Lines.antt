-- What a boundary and a power-up leave of the port EVENT: words stay words, and nothing was read of it since.
use Rattle.std.proofs.Common.{◌≡◌, ◌<◌, ℕ, zero, suc, arith, refl, Bool, true, false, if◌then◌else◌, nat_le, List, [], ◌∷◌, All, Option, Some, None}
use Rattle.std.specs.Prelude.{IfSome}
use Rattle.fram_board.specs.declared.events.Heard.TheVariants as heard
use Rattle.fram_board.specs.Events.{EventLine, port_behind, arising, arising_due, line_behind_step, line_behind_power_up}
use Rattle.fram_board.specs.Board.{BoardValue, PowerState, powered, at_boundary}
use Rattle.machine_effects.specs.View.{IsWhole, IsLineOfWords, IsOfWords}
use Rattle.machine_effects.specs.Laws.{BoundaryKeepsWords}

-- the words of events
abbrev AreOfWords : List (ℕ × ℕ) → Type 0
AreOfWords es = All (λ e. e.1 < 0x10000) es

first_word : (e : ℕ × ℕ) (es : List (ℕ × ℕ)) → AreOfWords (e ∷ es) → e.1 < 0x10000
first_word e es h = h zero e (omega arith)

other_words : (e : ℕ × ℕ) (es : List (ℕ × ℕ)) → AreOfWords (e ∷ es) → AreOfWords es
other_words e es h k d low = h (suc k) d (omega arith)

filled_port : (w : ℕ) (port : Option ℕ) → w < 0x10000 → IfSome port (λ v. v < 0x10000) → IfSome (port_behind w port) (λ v. v < 0x10000)
filled_port w None low h = low
filled_port w (Some v) low h = h

arising_words : (w : ℕ) (es : List (ℕ × ℕ)) (q : EventLine) → w < 0x10000 → AreOfWords es → IsLineOfWords q → IsLineOfWords (arising w es q)
arising_words w es q low words h = record { port = filled_port w q.port low h.port; coming = words }

either_line : (P : EventLine → Type 0) (b : Bool) (p q : EventLine) → P p → P q → P (if b then p else q)
either_line P true p q h k = h
either_line P false p q h k = k

due_words : (es : List (ℕ × ℕ)) (q : EventLine) → AreOfWords es → IsLineOfWords q → IsLineOfWords (arising_due es q)
due_words [] q words h = h
due_words (e ∷ es) q words h =
    either_line IsLineOfWords (nat_le e.0 q.made) (arising_due es (arising e.1 es q)) q
    (due_words es (arising e.1 es q) (other_words e es words) (arising_words e.1 es q (first_word e es words) (other_words e es words) h)) h

-- the words of the port, and of the events that come, stay words over the boundary behind a step
pub line_stays : (q : EventLine) → IsLineOfWords q → IsLineOfWords (line_behind_step q)
line_stays q h = due_words q.coming _ h.coming (record { port = h.port; coming = h.coming })

-- and over a power-up
pub line_powered : (q : EventLine) → IsLineOfWords q → IsLineOfWords (line_behind_power_up q)
line_powered q h = due_words q.coming _ h.coming (record { port = tt; coming = h.coming })

-- the boundary behind a step leaves a whole board
pub boundary_whole : (b : BoardValue) → IsWhole b → IsWhole (at_boundary b)
boundary_whole b h =
    let g = h.board in
    record { board = record { fram = g.fram; ram = g.ram; taken = g.taken; few = g.few }; registers = h.registers; own = h.own }

-- and words
pub boundary_words : (b : BoardValue) → IsOfWords b → IsOfWords (at_boundary b)
boundary_words b w = record {
  registers = w.registers;
  fram = w.fram;
  ram = w.ram;
  readings = w.readings;
  outnum = w.outnum;
  line = line_stays b.line w.line;
  radio = w.radio;
}

pub boundary_keeps_words : BoundaryKeepsWords
boundary_keeps_words b h w = (boundary_whole b h, boundary_words b w)

-- events that arise are no reads
due_heard : (es : List (ℕ × ℕ)) (q : EventLine) → (arising_due es q).heard ≡ q.heard
due_heard [] q = refl
due_heard (e ∷ es) q = either_line (λ p. p.heard ≡ q.heard) (nat_le e.0 q.made) (arising_due es (arising e.1 es q)) q (due_heard es (arising e.1 es q)) refl

-- behind the boundary of a step nothing was read of EVENT
pub boundary_heard : (b : BoardValue) → (at_boundary b).line.heard ≡ heard.Nothing
boundary_heard b = due_heard b.line.coming _

-- nor behind a power-up
pub powered_heard : (b : BoardValue) (p : PowerState) → (powered b p).line.heard ≡ heard.Nothing
powered_heard b p = due_heard b.line.coming _
