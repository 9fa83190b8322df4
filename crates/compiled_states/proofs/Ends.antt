-- What is saved at the end of a run is what is saved of the board behind its last moment.
use Rattle.compiled_states.proofs.Names.{◌≡◌, ℕ, ◌-◌, Bool, true, false, not, if◌then◌else◌, refl, sym, ap, ◌∙◌, List, [], ◌∷◌, ◌++◌, Option, Err, MapValue}
use Rattle.compiled_states.proofs.Names.{State, BusState, board_bus, BoardValue}
use Rattle.compiled_states.proofs.Names.{opened, board_outcome, powered, next_number, receiver_after, saved, Measure, Moment, Charges, Stopped}
use Rattle.compiled_states.proofs.Names.{RunOutcome, run_outcome, BoardCharge, price, ChargeRun, Spent, NoInstruction, TooDear, Refused, Executed, Run, Over}
use Rattle.compiled_states.proofs.Names.{Next, Last, last_board, charge_last}
use Rattle.msp_isa.specs.declared.instructions.Instr.{Instr}
use Rattle.msp_step.specs.declared.machine.Stop.{Stop}
use Rattle.msp_step.specs.Registers.{Registers, registers_of}
use Rattle.msp_step.specs.Access.{Access, Completed, Faulted}
use Rattle.msp_step.specs.Effect.{Written}
use Rattle.msp_step.specs.Step.{Outcome, effect, outcome_of, return_place, status_place}
use Rattle.msp_step.proofs.Interface.{Ends, effect_ends}
use Rattle.fram_board.specs.declared.board.NextStep.{NextStep}
use Rattle.fram_board.specs.declared.board.NextStep.TheVariants as next_step
use Rattle.fram_board.specs.Bus.{is_word, with_word}
use Rattle.fram_board.specs.Board.{performed, at_boundary, acceptance_on, acceptance_refused, acceptance_made}
use Rattle.fram_board.proofs.Interface.{only_takes}

module _ (map : Option MapValue) where
  -- an instruction that stops takes readings alone
  stopped_saved : (b : BoardValue) (i : Instr) (m : Access BusState (Registers × Option Written)) (e : Stop) → Ends board_bus 2 (opened b) m
      → (board_outcome b (outcome_of i (registers_of b.cpu) m)).answer ≡ Err e
      → saved (board_outcome b (outcome_of i (registers_of b.cpu) m)).board map ≡ saved b map
  stopped_saved b i (Completed x s) e h a = absurd cc
  stopped_saved b i (Faulted f c s) e h a =
      let of_bus : BusState → State = λ y. record {
        image = record { words = y.fram; map = map };
        receiver = next_number (receiver_after y.outnum y.offered b.receiver);
      } in
      ap of_bus (only_takes 2 (opened b) s h).same

  -- nor does an acceptance that is refused change anything
  abbrev StopSaves : BoardValue → Stop → Outcome BusState → Type 0
  StopSaves b e o = (board_outcome b o).answer ≡ Err e → saved (board_outcome b o).board map ≡ saved b map

  either_saves : (b : BoardValue) (e : Stop) (t : Bool) (o p : Outcome BusState) → StopSaves b e o → StopSaves b e p → StopSaves b e (if t then o else p)
  either_saves b e true o p h k = h
  either_saves b e false o p h k = k

  acceptance_saved : (b : BoardValue) (e : Stop) → StopSaves b e (acceptance_on (registers_of b.cpu) (opened b))
  acceptance_saved b e =
      let r = registers_of b.cpu in
      let s = with_word (with_word (opened b) (return_place r) (r 0)) (status_place r) (r 2) in
      either_saves b e (not (is_word (return_place r))) (acceptance_refused r (opened b) (return_place r)) _ (λ a. refl)
      (either_saves b e (not (is_word (status_place r))) (acceptance_refused r (opened b) (status_place r)) (acceptance_made r s) (λ a. refl)
      (λ a. absurd (cc (a))))

  refused_saved : (b : BoardValue) (n : NextStep) (e : Stop) → (performed b n).answer ≡ Err e → saved (performed b n).board map ≡ saved b map
  refused_saved b next_step.Acceptance e a = acceptance_saved b e a
  refused_saved b (next_step.Instruction i) e a =
      stopped_saved b i (effect board_bus i (registers_of b.cpu) (opened b)) e (effect_ends board_bus i (registers_of b.cpu) (opened b)) a

  charge_saved : (m : Measure) (left : ℕ) (b : BoardValue) (r : RunOutcome) → ChargeRun m left b r → saved r.board map ≡ saved (last_board b r.moments) map
  charge_saved m left b r (Spent _ _ none) = refl
  charge_saved m left b r (NoInstruction _ _ e pos h) = refl
  charge_saved m left b r (TooDear _ _ i pos c dear) = refl
  charge_saved m left b r (Refused _ _ i e pos c paid a) = refused_saved b i e a
  charge_saved m left b r (Executed _ _ i done rest pos c paid a h) = charge_saved m (left - price m i) (at_boundary (performed b i).board) rest h

  behind_both : (b : BoardValue) (ms ns : List Moment) → last_board (last_board b ms) ns ≡ last_board b (ms ++ ns)
  behind_both b [] ns = refl
  behind_both b (m ∷ ms) ns = behind_both m.after ms ns

  pub run_saved : (cs : List BoardCharge) (b : BoardValue) (r : RunOutcome) → Run cs b r → saved r.board map ≡ saved (last_board b r.moments) map
  run_saved cs b r (Over _) = refl
  run_saved cs b r (Next c ds _ ms end rest one more) =
      let there : last_board (powered b c.start) ms ≡ end = charge_last c.measure c.amount (powered b c.start) (run_outcome ms Charges end) one refl in
      run_saved ds end rest more ∙ ap (λ y. saved (last_board y rest.moments) map) (sym there)
      ∙ ap (λ y. saved y map) (behind_both (powered b c.start) ms rest.moments)
  run_saved cs b r (Last c ds _ ms stop end one) = charge_saved c.measure c.amount (powered b c.start) (run_outcome ms (Stopped stop) end) one
