-- Events and the port EVENT: a step takes from the port what it reads, and at the boundary behind it no more wait than arise.
use Rattle.std.proofs.Common.{◌≡◌, ◌+◌, ◌≤◌, if◌then◌else◌, nat_le, arith, ℕ, refl, ap, Bool, true, false, List, [], ◌∷◌}
use Rattle.std.proofs.Common.{None}
use Rattle.msp_step.specs.Reads.{Nothing}
use Rattle.fram_board.proofs.Interface.{AreReads, Unread, ReadOnce, ReadAgain, step_reads, port_filled}
use Rattle.fram_board.specs.declared.board.NextStep.{NextStep}
use Rattle.fram_board.specs.declared.events.Heard.TheVariants as heard
use Rattle.fram_board.specs.Events.{EventLine, words_in, words_heard, arising, arising_due, step_counted}
use Rattle.fram_board.specs.Board.{BoardValue, PowerState, powered, performed}
use Rattle.fram_board.specs.Board.{at_boundary}

-- a step takes from the port what it reads, and nothing arises in it
record IsTaken (q r : EventLine) : Type 0 where
  arisen : r.arisen ≡ q.arisen
  words : words_in q.port ≡ words_in r.port + words_heard r.heard

reads_take : (q r : EventLine) → q.heard ≡ heard.Nothing → AreReads q r → IsTaken q r
reads_take q r none Unread = let e = ap words_heard none in record { arisen = refl; words = omega (arith, e) }
reads_take q r none ReadOnce = record { arisen = refl; words = omega arith }
reads_take q r none ReadAgain = record { arisen = refl; words = omega arith }

-- no more come to wait than arise
either_grows : (b : Bool) (q r : EventLine) → q.arisen + words_in r.port ≤ r.arisen + words_in q.port
    → q.arisen + words_in (if b then r else q).port ≤ (if b then r else q).arisen + words_in q.port
either_grows true q r h = h
either_grows false q r h = omega arith

due_grows : (es : List (ℕ × ℕ)) (q : EventLine) → q.arisen + words_in (arising_due es q).port ≤ (arising_due es q).arisen + words_in q.port
due_grows [] q = omega arith
due_grows (e ∷ es) q =
    let more = due_grows es (arising e.1 es q) in
    let full = port_filled e.1 q.port in
    either_grows (nat_le e.0 q.made) q (arising_due es (arising e.1 es q)) (omega (arith, more, full))

-- what a step and the boundary behind it make of the port: the words that wait and were taken are no more than arose, with those before
pub step_arises : (b : BoardValue) (n : NextStep) → b.line.heard ≡ heard.Nothing → let c = at_boundary (performed b n).board in
    b.line.arisen + (words_in c.line.port + words_heard (performed b n).board.line.heard) ≤ c.line.arisen + words_in b.line.port
step_arises b n none =
    let x = (performed b n).board in
    let taken = reads_take b.line x.line none (step_reads b n none) in
    let q : EventLine = record x.line { heard = heard.Nothing; made = step_counted x.line.coming x.line.made } in
    let due = due_grows x.line.coming q in
    let arisen = taken.arisen in
    let words = taken.words in
    omega (arith, due, arisen, words)

-- and a power-up, which empties it
pub power_up_arises : (b : BoardValue) (p : PowerState) → b.line.arisen + words_in (powered b p).line.port ≤ (powered b p).line.arisen
power_up_arises b p =
    let q : EventLine = record b.line { port = None; heard = heard.Nothing; missed = b.line.missed + words_in b.line.port } in
    let due = due_grows b.line.coming q in
    omega (arith, due)
