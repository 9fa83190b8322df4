-- What the reads of a step make of the port EVENT, and what arises behind it: no event is forgotten, and none is counted twice.
use Rattle.std.proofs.Common.{◌≡◌, ◌+◌, ◌==◌, nat_le, if◌then◌else◌, arith, ℕ, refl, sym, ◌∙◌, ap, subst, Bool, true, false, List, [], ◌∷◌, Option, Some, None}
use Rattle.std.proofs.Common.{Result, Ok, Err}
use Rattle.alp_words.specs.declared.Width.{Width}
use Rattle.alp_words.specs.declared.Width.TheVariants.{Word, Byte}
use Rattle.msp_isa.specs.declared.instructions.Instr.{Instr}
use Rattle.msp_step.specs.Registers.{Registers, registers_of}
use Rattle.msp_step.specs.Access.{Access, Completed, Faulted}
use Rattle.msp_step.specs.Reads.{HasRead, Nothing, Once}
use Rattle.msp_step.specs.Effect.{Written}
use Rattle.msp_step.specs.declared.machine.Stop.{Stop}
use Rattle.msp_step.specs.declared.machine.Stepped as machine
use Rattle.msp_step.specs.Step.{effect, execution, outcome_of, return_place, status_place}
use Rattle.msp_step.proofs.Interface.{Ends, effect_ends}
use Rattle.fram_board.specs.declared.events.Heard.{Heard}
use Rattle.fram_board.specs.declared.events.Heard.TheVariants as heard
use Rattle.fram_board.specs.declared.board.NextStep.{NextStep}
use Rattle.fram_board.specs.declared.board.NextStep.TheVariants as next_step
use Rattle.fram_board.specs.Bus.{BusState, board_bus, after_read, with_word, is_ram, event_port}
use Rattle.fram_board.specs.declared.board.Stepped.{Stepped}
use Rattle.fram_board.specs.Board.{BoardValue, opened, executed, acceptance, acceptance_on, answer_of, performed}
use Rattle.fram_board.specs.Events.{EventLine, words_in, words_heard, heard_again, port_read, port_behind, arising, arising_due, step_counted}
use Rattle.fram_board.specs.Events.{line_behind_step, line_behind_power_up}
use Rattle.fram_board.proofs.Takes.{word_same, after_write_same}
use Rattle.fram_board.proofs.Acceptances.{of_acceptance}

-- what the reads of a step make of a line
pub data AreReads (q : EventLine) : EventLine → Type 0 where
  Unread : AreReads q q
  ReadOnce : AreReads q (record q { port = None; heard = heard.Once q.port })
  ReadAgain : AreReads q (record q { port = None; heard = heard.Again q.port })

one_read : (q r : EventLine) → q.heard ≡ heard.Nothing → AreReads q r → AreReads q (port_read r)
one_read q r none Unread =
    let P : Heard → Type 0 = λ h. AreReads q (record q { port = None; heard = heard_again q.port h }) in
    subst P (sym none) ReadOnce
one_read q r none ReadOnce = ReadAgain
one_read q r none ReadAgain = ReadAgain

maybe_read : (b : Bool) (q r : EventLine) → q.heard ≡ heard.Nothing → AreReads q r → AreReads q (if b then port_read r else r)
maybe_read true q r none h = one_read q r none h
maybe_read false q r none h = h

access_read : (q : EventLine) (s : BusState) (a : ℕ) (w : Width) → q.heard ≡ heard.Nothing → AreReads q s.line → AreReads q (after_read s a w).line
access_read q s a Word none h = maybe_read (a == event_port) q s.line none h
access_read q s a Byte none h = h

all_read : (s t : BusState) (n : ℕ) → s.line.heard ≡ heard.Nothing → HasRead board_bus s n t → AreReads s.line t.line
all_read s t n none Nothing = Unread
all_read s t n none (Once m u a w v h e) = access_read s.line u a w none (all_read s u m none h)

outcome_reads : (i : Instr) (r : Registers) (s : BusState) (m : Access BusState (Registers × Option Written)) → s.line.heard ≡ heard.Nothing
    → Ends board_bus 2 s m → AreReads s.line (outcome_of i r m).bus.line
outcome_reads i r s (Completed x t) none h =
    let P : EventLine → Type 0 = λ q. AreReads s.line q in
    subst P (sym (after_write_same h.0 t x.1 h.2).1) (all_read s h.0 h.1.count none h.1.reads)
outcome_reads i r s (Faulted e a t) none h = all_read s t h.count none h.reads

-- an instruction changes the line by its reads alone
pub instruction_reads : (b : BoardValue) (i : Instr) → b.line.heard ≡ heard.Nothing → AreReads b.line (executed b i).board.line
instruction_reads b i none =
    let r = registers_of b.cpu in
    outcome_reads i r (opened b) (effect board_bus i r (opened b)) none (effect_ends board_bus i r (opened b))

-- an acceptance leaves the line
pub acceptance_line : (b : BoardValue) → (acceptance b).board.line ≡ b.line
acceptance_line b =
    let r = registers_of b.cpu in
    let first = (word_same (opened b) (is_ram (return_place r)) _ _).1 in
    of_acceptance (λ o. o.bus.line ≡ b.line) r (opened b) (λ a. refl)
    (λ _ _. (word_same (with_word (opened b) (return_place r) (r 0)) (is_ram (status_place r)) _ _).1 ∙ first)

-- and so does any step
pub step_reads : (b : BoardValue) (n : NextStep) → b.line.heard ≡ heard.Nothing → AreReads b.line (performed b n).board.line
step_reads b next_step.Acceptance none =
    let P : EventLine → Type 0 = λ q. AreReads b.line q in
    subst P (sym (acceptance_line b)) Unread
step_reads b (next_step.Instruction i) none = instruction_reads b i none

-- each event that arose was lost at the port, waits there, or was taken: so many were
abbrev pub AreCounted : EventLine → ℕ → Type 0
AreCounted q taken = q.arisen ≡ q.missed + words_in q.port + taken

read_counts : (q r : EventLine) (taken : ℕ) → q.heard ≡ heard.Nothing → AreReads q r → AreCounted q taken → AreCounted r (words_heard r.heard + taken)
read_counts q r taken none Unread h = let same = ap words_heard none in omega (arith, same, h)
read_counts q r taken none ReadOnce h = omega (arith, h)
read_counts q r taken none ReadAgain h = omega (arith, h)

told_by : (b : BoardValue) (s : BusState) (a : Result machine.Stepped Stop) (done : Stepped) → answer_of b s a ≡ Ok done → done.heard ≡ s.line.heard
told_by b s (Ok d) done e = cc
told_by b s (Err x) done e = cc

-- what a step tells that it read is what its line says
pub told_heard : (b : BoardValue) (n : NextStep) (done : Stepped) → (performed b n).answer ≡ Ok done → done.heard ≡ (performed b n).board.line.heard
told_heard b next_step.Acceptance done answer =
    let o = acceptance_on (registers_of b.cpu) (opened b) in
    told_by b o.bus o.answer done answer
told_heard b (next_step.Instruction i) done answer =
    let o = execution board_bus i (registers_of b.cpu) (opened b) in
    told_by b o.bus o.answer done answer

-- of a step that stopped the words count that it had taken
pub stop_counts : (b : BoardValue) (n : NextStep) (taken : ℕ) → b.line.heard ≡ heard.Nothing → AreCounted b.line taken
    → AreCounted (performed b n).board.line (words_heard (performed b n).board.line.heard + taken)
stop_counts b n taken none h = read_counts b.line (performed b n).board.line taken none (step_reads b n none) h

-- of one that is made those that it tells
pub step_counts : (b : BoardValue) (n : NextStep) (done : Stepped) (taken : ℕ) → (performed b n).answer ≡ Ok done → b.line.heard ≡ heard.Nothing
    → AreCounted b.line taken → AreCounted (performed b n).board.line (words_heard done.heard + taken)
step_counts b n done taken answer none h =
    let same = ap words_heard (told_heard b n done answer) in
    let counts = stop_counts b n taken none h in
    omega (arith, same, counts)

-- what arises is counted, and reads nothing
record Arises (q r : EventLine) : Type 0 where
  heard : r.heard ≡ q.heard
  counts : r.arisen + (q.missed + words_in q.port) ≡ q.arisen + (r.missed + words_in r.port)

either_arises : (b : Bool) (q r : EventLine) → Arises q r → Arises q (if b then r else q)
either_arises true q r h = h
either_arises false q r h = record { heard = refl; counts = refl }

pub port_filled : (w : ℕ) (port : Option ℕ) → words_in (port_behind w port) ≡ 1
port_filled w None = refl
port_filled w (Some v) = refl

one_arises : (w : ℕ) (es : List (ℕ × ℕ)) (q r : EventLine) → Arises (arising w es q) r → Arises q r
one_arises w es q r h =
    let counts = h.counts in
    let full = port_filled w q.port in
    record { heard = h.heard; counts = omega (arith, counts, full) }

due_arise : (es : List (ℕ × ℕ)) (q : EventLine) → Arises q (arising_due es q)
due_arise [] q = record { heard = refl; counts = refl }
due_arise (e ∷ es) q =
    either_arises (nat_le e.0 q.made) q (arising_due es (arising e.1 es q)) (one_arises e.1 es q _ (due_arise es (arising e.1 es q)))

-- a line at a boundary: nothing was read since, and all that arose is counted
pub record IsCountedLine (q : EventLine) (taken : ℕ) : Type 0 where
  pub unheard : q.heard ≡ heard.Nothing
  pub counted : AreCounted q taken

arisen_counts : (q : EventLine) (taken : ℕ) → q.heard ≡ heard.Nothing → AreCounted q taken → IsCountedLine (arising_due q.coming q) taken
arisen_counts q taken none h =
    let due = due_arise q.coming q in
    let counts = due.counts in
    record { unheard = due.heard ∙ none; counted = omega (arith, counts, h) }

-- the boundary behind a step forgets none
pub boundary_counts : (q : EventLine) (taken : ℕ) → AreCounted q taken → IsCountedLine (line_behind_step q) taken
boundary_counts q taken h =
    arisen_counts (record q { heard = heard.Nothing; made = step_counted q.coming q.made }) taken refl h

-- nor does a power-up
pub power_up_counts : (q : EventLine) (taken : ℕ) → AreCounted q taken → IsCountedLine (line_behind_power_up q) taken
power_up_counts q taken h =
    arisen_counts (record q { port = None; heard = heard.Nothing; missed = q.missed + words_in q.port }) taken refl
    (let e : q.arisen ≡ q.missed + words_in q.port + 0 + taken = omega (arith, h) in e)
