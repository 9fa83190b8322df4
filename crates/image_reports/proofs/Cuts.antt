-- Fronts of a run from their last power-up on, and what steps leave alone.
use Rattle.image_reports.proofs.Names.{◌≡◌, ◌<◌, ◌≤◌, ℕ, zero, suc, Bool, true, false, refl, sym, ap, ◌∙◌, subst, arith, nat_tests, eqb-true, List, []}
use Rattle.image_reports.proofs.Names.{◌∷◌, ◌++◌, length}
use Rattle.image_reports.proofs.Names.{Some, encoding, BoardValue, Moment, PowerUp, MachineBoard, fram_of, last_board, AreMoments, Instructs, IsMomentFrom}
use Rattle.image_reports.proofs.Names.{NoneServes, PowersUp, Serves, AreInstructionMoments, program_steps}
use Rattle.std.specs.Prelude.{if◌then◌else◌, ◌==◌, nat_le, Result, Ok}
use Rattle.std.proofs.lemmas.Bool.{and_parts, leb-true}
use Rattle.event_places.specs.Places.{handler_place, is_ring}
use Rattle.msp_isa.specs.declared.instructions.Instr.{Instr}
use Rattle.msp_cycles.specs.Cycles.{cycles_of}
use Rattle.msp_step.specs.declared.machine.Stop.{Stop}
use Rattle.msp_step.specs.Registers.{registers_of}
use Rattle.msp_step.specs.Step.{enabled_bit, is_interruptible, off_bit}
use Rattle.fram_board.specs.declared.board.Stepped.{Stepped}
use Rattle.fram_board.specs.Board.{executed}
use Rattle.fram_board.specs.Effects.{Effect, effects_of}
use Rattle.fram_board.specs.Run.{Action, Execute}
use Rattle.machine_effects.specs.Inputs.{look_effects}
use Rattle.machine_effects.specs.Laws.{KeepsTheHandler}
use Rattle.machine_effects.specs.Machine.{MachineOutcome, in_stack, is_prepared}
use Rattle.machine_effects.specs.View.{looks_at, machine_with, outcome_of_answer}
use Rattle.machine_effects.proofs.Interface.{code_keeps}
use Rattle.event_handler.specs.Handler.{Stage}
use Rattle.event_handler.specs.Boundaries.{IsInHandler}
use Rattle.program_view.specs.View.{is_handlers}
use Rattle.program_view.specs.Stands.{IsPrograms}
use Rattle.run_charges.specs.Charges.{IsInstruction}

-- moments that are the steps of a charge, or end with those behind their last power-up
pub data CutAtPower (ms : List Moment) : Type 0 where
  Uncut : AreInstructionMoments ms → CutAtPower ms
  Cut : (before : List Moment) (boot : Moment) (steps : List Moment) → ms ≡ before ++ (boot ∷ steps) → boot.action ≡ PowerUp
      → AreInstructionMoments steps → CutAtPower ms

cut_front : (m : Moment) (ms : List Moment) → CutAtPower ms → CutAtPower (m ∷ ms)
cut_front m ms (Cut before boot steps is up are) = Cut (m ∷ before) boot steps (ap (λ l. m ∷ l) is) up are
cut_front m ms (Uncut are) = by m.action refl
  where
    by : (a : Action) → m.action ≡ a → CutAtPower (m ∷ ms)
    by PowerUp e = Cut [] m ms refl e are
    by (Execute kind done offered) e = Uncut (subst IsInstruction (sym e) tt, are)

pub cut_at_power : (ms : List Moment) → CutAtPower ms
cut_at_power [] = Uncut tt
cut_at_power (m ∷ ms) = cut_front m ms (cut_at_power ms)

pub none_serves : (ms rest : List Moment) → NoneServes (ms ++ rest) → NoneServes ms
none_serves [] rest h = tt
none_serves (m ∷ ms) rest h = (h.0, none_serves ms rest h.1)

-- a first part of steps with so many of the program's own
pub record OwnPart (n : ℕ) (steps : List Moment) : Type 0 where
  pub first : List Moment
  pub rest : List Moment
  pub are : steps ≡ first ++ rest
  pub many : program_steps first ≡ n

own_behind : (n : ℕ) (m : Moment) (ms : List Moment) → is_handlers m ≡ true → OwnPart n ms → OwnPart n (m ∷ ms)
own_behind n m ms e part = record {
  first = m ∷ part.first;
  rest = part.rest;
  are = ap (λ l. m ∷ l) part.are;
  many = ap (λ c. if c then program_steps part.first else suc (program_steps part.first)) e ∙ part.many;
}

own_one : (n : ℕ) (m : Moment) (ms : List Moment) → is_handlers m ≡ false → OwnPart n ms → OwnPart (suc n) (m ∷ ms)
own_one n m ms e part = record {
  first = m ∷ part.first;
  rest = part.rest;
  are = ap (λ l. m ∷ l) part.are;
  many = ap (λ c. if c then program_steps part.first else suc (program_steps part.first)) e ∙ ap suc part.many;
}

pub own_part : (n : ℕ) (steps : List Moment) → n ≤ program_steps steps → OwnPart n steps
own_part zero steps h = record { first = []; rest = steps; are = refl; many = refl }
own_part (suc n) [] h = absurd (omega (arith, h))
own_part (suc n) (m ∷ ms) h = by (is_handlers m) refl (own_part (suc n) ms) (own_part n ms)
  where
    by : (c : Bool) → is_handlers m ≡ c → (suc n ≤ program_steps ms → OwnPart (suc n) ms) → (n ≤ program_steps ms → OwnPart n ms)
        → OwnPart (suc n) (m ∷ ms)
    by true e more less =
        let same : program_steps (m ∷ ms) ≡ program_steps ms = ap (λ c. if c then program_steps ms else suc (program_steps ms)) e in
        own_behind (suc n) m ms e (more (omega (arith, h, same)))
    by false e more less =
        let same : program_steps (m ∷ ms) ≡ suc (program_steps ms) = ap (λ c. if c then program_steps ms else suc (program_steps ms)) e in
        own_one n m ms e (less (omega (arith, h, same)))

-- a number from two on
pub two_less : (n : ℕ) → 2 ≤ n → (k : ℕ) × (n ≡ suc (suc k))
two_less zero h = absurd (omega (arith, h))
two_less (suc zero) h = absurd (omega (arith, h))
two_less (suc (suc k)) h = (k, refl)

-- ---- what steps leave alone

ring_is_high : (a : ℕ) → is_ring a ≡ true → handler_place ≤ a
ring_is_high a of = grind (arith, nat_tests, of)

-- an instruction of the program leaves FRAM from the handler on
own_leaves : (b : BoardValue) (i : Instr) (done : Stepped) → (executed b i).answer ≡ Ok done → IsPrograms b i → (a : ℕ) → handler_place ≤ a
    → fram_of (executed b i).board.fram a ≡ fram_of b.fram a
own_leaves b i done answer own a high =
    let x = executed b i in
    let s : MachineBoard = machine_with (looks_at b i) b in
    let es : List Effect = look_effects (looks_at b i) ++ effects_of b x in
    let P : MachineOutcome → Type 0 = λ o. KeepsTheHandler s o in
    let Q : Result Stepped Stop → Type 0 = λ y. KeepsTheHandler s (outcome_of_answer es (cycles_of i) y (machine_with [] x.board)) in
    subst Q answer (subst P own.step (code_keeps s i)) a high

one_stays : (b : BoardValue) (m : Moment) → IsMomentFrom b m → is_handlers m ≡ false → (a : ℕ) → is_ring a ≡ true → fram_of m.after.fram a ≡ fram_of b.fram a
one_stays b m (PowersUp p ok e) none a of = ap (λ (y : Moment). fram_of y.after.fram a) e
one_stays b m (Instructs i done c answer own e) none a of =
    ap (λ (y : Moment). fram_of y.after.fram a) e ∙ own_leaves b i done answer own a (ring_is_high a of)
one_stays b m (Serves n done next answer served e) none a of =
    let handlers = ap is_handlers e ∙ served.handlers in absurd (cc (handlers, none))

-- so do moments of which none is the handler's with HEAD and the ring
pub ring_stays : (b : BoardValue) (ms : List Moment) → AreMoments b ms → NoneServes ms → (a : ℕ) → is_ring a ≡ true
    → fram_of (last_board b ms).fram a ≡ fram_of b.fram a
ring_stays b [] are none a of = refl
ring_stays b (m ∷ ms) are none a of =
    ring_stays m.after ms are.2 none.1 a of ∙ one_stays m.before m are.1 none.0 a of ∙ ap (λ (y : BoardValue). fram_of y.fram a) are.0.same

-- ---- instructions and registers

pub encoding_has_words : (i : Instr) → 0 < length (encoding i)
encoding_has_words i = grind arith

-- a machine that is ready for the handler has SP within the stack
pub prepared_bounds : (u : MachineBoard) → is_prepared u ≡ true → (0x1C20 ≤ u.registers 1) × (u.registers 1 ≤ 0x2400)
prepared_bounds u e =
    let inside = (and_parts (u.fram 0xFFF0 == handler_place) (in_stack (u.registers 1)) e).1 in
    let both = and_parts (nat_le 0x1C20 (u.registers 1)) (nat_le (u.registers 1) 0x2400) inside in
    let low = leb-true 0x1C20 (u.registers 1) both.0 in
    let high = leb-true (u.registers 1) 0x2400 both.1 in
    (low, high)

-- in the handler the CPU accepts none
pub handler_is_closed : (from t : BoardValue) (at : Stage) → IsInHandler from at t → is_interruptible (registers_of t.cpu) ≡ true → ⊥
handler_is_closed from t at inside accepts =
    let control = inside.control in
    let bit = eqb-true (enabled_bit (registers_of t.cpu)) 1 (and_parts (off_bit (registers_of t.cpu) == 0) (enabled_bit (registers_of t.cpu) == 1) accepts).1 in
    omega (arith, control, bit)
