-- The board's step in the code's own terms.
use Rattle.std.proofs.Common.{◌≡◌, ◌+◌, arith, ℕ, refl, sym, ◌∙◌, ap, subst, length, Option, Some, None, List, [], ◌∷◌, Result, Bool, true, false}
use Rattle.std.proofs.Common.{if◌then◌else◌}
use Rattle.msp_isa.specs.declared.instructions.Instr.{Instr}
use Rattle.msp_step.specs.declared.machine.Stop.{Stop}
use Rattle.msp_step.specs.declared.machine.Stepped as machine
use Rattle.msp_step.specs.Registers.{registers_of}
use Rattle.msp_step.specs.Reads.{OnlyReads}
use Rattle.msp_step.specs.Step.{Outcome, execution}
use Rattle.fram_board.specs.declared.receiver.Receiver.{Receiver}
use Rattle.fram_board.specs.Bus.{BusState, board_bus}
use Rattle.fram_board.specs.Board.{BoardValue, opened, board_outcome, executed, register_list, is_accepted, receiver_after}
use Rattle.fram_board.specs.Steps.{OffersOneAtMost, KeepsAllButTaken, line_heard}
use Rattle.fram_board.proofs.Takes.{TakesUpTo, execution_takes, only_takes}

-- the board of these parts
abbrev pub board_of : List ℕ → BusState → Receiver → BoardValue
board_of cpu d r = record {
  cpu = cpu;
  fram = d.fram;
  ram = d.ram;
  outnum = d.outnum;
  readings = d.readings;
  taken = d.taken;
  receiver = r;
  line = d.line;
  radio = d.radio;
}

-- what the CPU left
abbrev pub cpu_outcome : Result machine.Stepped Stop → List ℕ → BusState → Outcome BusState
cpu_outcome answer cpu d = record { answer = answer; registers = registers_of cpu; bus = d }

pub register_list-registers_of : (rs : List ℕ) → length rs ≡ 16 → register_list (registers_of rs) ≡ rs
register_list-registers_of (a ∷ b ∷ c ∷ d ∷ e ∷ f ∷ g ∷ h ∷ i ∷ j ∷ k ∷ l ∷ m ∷ n ∷ o ∷ p ∷ []) len = refl
register_list-registers_of _ len = absurd (omega arith)

-- nothing is offered or sent
abbrev pub IsSilent : BusState → Type 0
IsSilent d = (d.offered ≡ None) × (d.sent ≡ None)

-- what the code's parts open
pub opened_is : (b : BoardValue) (d : BusState) (cpu : List ℕ) (r : Receiver) → b ≡ board_of cpu d r → IsSilent d → opened b ≡ d
opened_is b d cpu r is off =
    ap opened is
    ∙ ap (λ o. record d { offered = o; sent = None }) (sym off.0)
    ∙ ap (λ p. record d { offered = d.offered; sent = p }) (sym off.1)

pub outcome_is : (b : BoardValue) (cpu : List ℕ) (d : BusState) (r : Receiver) (i : Instr) (answer : Result machine.Stepped Stop) (cpu' : List ℕ)
    (d' : BusState)
    → b ≡ board_of cpu d r → IsSilent d → cpu_outcome answer cpu' d' ≡ execution board_bus i (registers_of cpu) d
    → executed b i ≡ board_outcome (board_of cpu d r) (cpu_outcome answer cpu' d')
outcome_is b cpu d r i answer cpu' d' is off ran =
    ap (λ x. executed x i) is
    ∙ ap (λ s. board_outcome (board_of cpu d r) (execution board_bus i (registers_of cpu) s)) (opened_is (board_of cpu d r) d cpu r refl off)
    ∙ ap (λ o. board_outcome (board_of cpu d r) o) (sym ran)

pub closed_is : (b : BoardValue) (cpu : List ℕ) (d : BusState) (r : Receiver) (i : Instr) (answer : Result machine.Stepped Stop) (cpu' : List ℕ)
    (d' e : BusState) (q : Receiver)
    → board_of cpu d r ≡ b → IsSilent d → cpu_outcome answer cpu' d' ≡ execution board_bus i (registers_of cpu) d → length cpu' ≡ 16
    → e ≡ record d' { offered = None; sent = None } → q ≡ receiver_after d'.outnum d'.offered r
    → board_of cpu' e q ≡ (executed b i).board
closed_is b cpu d r i answer cpu' d' e q is off ran len cleared heard =
    ap (λ s. board_of cpu' s q) cleared
    ∙ ap (λ x. board_of cpu' d' x) heard
    ∙ ap (λ c. board_of c d' (receiver_after d'.outnum d'.offered r)) (sym (register_list-registers_of cpu' len))
    ∙ ap (λ x. x.board) (sym (outcome_is b cpu d r i answer cpu' d' (sym is) off ran))

pub taken_grows : (i : Instr) (cpu : List ℕ) (d : BusState) (answer : Result machine.Stepped Stop) (cpu' : List ℕ) (d' : BusState)
    → cpu_outcome answer cpu' d' ≡ execution board_bus i (registers_of cpu) d → TakesUpTo 2 d d'
taken_grows i cpu d answer cpu' d' ran =
    let P : Outcome BusState → Type 0 = λ o. TakesUpTo 2 d o.bus in
    subst P (sym ran) (execution_takes i (registers_of cpu) d)

-- a stop left all but the readings taken
pub stopped_keeps : (b : BoardValue) (cpu : List ℕ) (d : BusState) (r : Receiver) (cpu' : List ℕ) (d' e : BusState) (q : Receiver)
    → board_of cpu d r ≡ b → IsSilent d → cpu' ≡ cpu → OnlyReads board_bus 2 d d'
    → e ≡ record d' { offered = None; sent = None } → q ≡ receiver_after d'.outnum d'.offered r
    → KeepsAllButTaken b (board_of cpu' e q)
stopped_keeps b cpu d r cpu' d' e q is off same reads cleared heard =
    let g = only_takes 2 d d' reads in
    let quiet : d'.offered ≡ None = ap (λ s. s.offered) g.same ∙ off.0 in
    let before : b.taken ≡ d.taken = sym (ap (λ x. x.taken) is) in
    let after : e.taken ≡ d'.taken = ap (λ s. s.taken) cleared in
    let from = g.takes.from in
    let to = g.takes.to in
    let line : e.line ≡ d'.line = ap (λ s. s.line) cleared in
    let last : board_of cpu (record d { taken = d'.taken; line = line_heard d.line d'.line }) r
    ≡ record b { taken = e.taken; line = line_heard b.line e.line } =
    ap (λ n. board_of cpu (record d { taken = n; line = line_heard d.line d'.line }) r) (sym after)
    ∙ ap (λ q. board_of cpu (record d { taken = e.taken; line = line_heard d.line q }) r) (sym line)
    ∙ ap {A = BoardValue} (λ x. record x { taken = e.taken; line = line_heard x.line e.line }) is in
    record {
      same = ap (λ s. board_of cpu' s q) cleared
          ∙ ap (λ x. board_of cpu' d' x) heard
          ∙ ap (λ o. board_of cpu' d' (receiver_after d'.outnum o r)) quiet
          ∙ ap (λ c. board_of c d' r) same
          ∙ ap (λ s. board_of cpu s r) g.same
          ∙ last;
      from = omega arith;
      to = omega arith;
    }

counted_few : (b : Bool) (r : Receiver) → OffersOneAtMost r (if b then record r { accepted = r.accepted + 1 } else record r { repeats = r.repeats + 1 })
counted_few true r = omega arith
counted_few false r = omega arith

pub heard_few : (number : ℕ) (offered : Option ℕ) (r : Receiver) → OffersOneAtMost r (receiver_after number offered r)
heard_few number None r = omega arith
heard_few number (Some w) r = counted_few (is_accepted number r) r

pub heard_few_of : (number : ℕ) (offered : Option ℕ) (r s t : Receiver) → r ≡ s → t ≡ receiver_after number offered r → OffersOneAtMost s t
heard_few_of number offered r s t same is =
    let P : Receiver → Receiver → Type 0 = λ x y. OffersOneAtMost x y in
    let before : P r t = subst (P r) (sym is) (heard_few number offered r) in
    let Q : Receiver → Type 0 = λ x. OffersOneAtMost x t in
    subst Q same before
