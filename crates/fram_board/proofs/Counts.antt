-- The receiver's count is the number of the words that a run accepted.
use Rattle.std.proofs.Common.{◌≡◌, ◌+◌, if◌then◌else◌, arith, ℕ, refl, sym, ◌∙◌, ap, Bool, true, false, List, [], ◌∷◌, ◌++◌, length, length-append}
use Rattle.std.proofs.Common.{append_assoc, Option, Some, None, Result, Ok, Err}
use Rattle.msp_isa.specs.declared.instructions.Instr.{Instr}
use Rattle.msp_step.specs.declared.machine.Stop.{Stop}
use Rattle.msp_step.specs.declared.machine.Stepped as machine
use Rattle.msp_step.specs.Registers.{Registers, registers_of}
use Rattle.msp_step.specs.Access.{Access, Completed, Faulted}
use Rattle.msp_step.specs.Effect.{Written}
use Rattle.msp_step.specs.Step.{outcome_of, effect, execution, return_place, status_place}
use Rattle.msp_step.proofs.Interface.{Ends, effect_ends}
use Rattle.fram_board.specs.declared.board.NextStep.{NextStep}
use Rattle.fram_board.specs.declared.board.NextStep.TheVariants as next_step
use Rattle.fram_board.specs.declared.board.Stepped.{Stepped}
use Rattle.fram_board.specs.declared.receiver.Receiver.{Receiver}
use Rattle.fram_board.specs.Bus.{BusState, board_bus, is_ram, with_word}
use Rattle.fram_board.specs.Board.{BoardValue, opened, answer_of, executed, is_accepted, accepted_word, receiver_after}
use Rattle.fram_board.specs.Board.{acceptance, acceptance_on, performed, at_boundary}
use Rattle.fram_board.specs.Run.{Measure, BoardCharge, Moment, RunOutcome, ChargeRun, Spent, NoInstruction, TooDear, Refused, Executed, Run, Over, Next, Last}
use Rattle.fram_board.specs.Run.{word_list, accepted_by, accepted_words}
use Rattle.fram_board.specs.Laws.{AcceptedAreCounted}
use Rattle.fram_board.proofs.Takes.{only_takes}
use Rattle.fram_board.proofs.Acceptances.{of_acceptance}

counted_one : (b : Bool) (w : ℕ) (r : Receiver)
    → (if b then record r { accepted = r.accepted + 1 } else record r { repeats = r.repeats + 1 }).accepted ≡ r.accepted + length
    (word_list (if b then Some w else None))
counted_one true w r = omega arith
counted_one false w r = omega arith

first_kept_by : (b : Bool) (r : Receiver) → (if b then record r { accepted = r.accepted + 1 } else record r { repeats = r.repeats + 1 }).first ≡ r.first
first_kept_by true r = refl
first_kept_by false r = refl

-- a receiver stays where it started
pub first_kept : (number : ℕ) (o : Option ℕ) (r : Receiver) → (receiver_after number o r).first ≡ r.first
first_kept number None r = refl
first_kept number (Some w) r = first_kept_by (is_accepted number r) r

-- the receiver counts each word that it accepts
pub counted : (number : ℕ) (o : Option ℕ) (r : Receiver) → (receiver_after number o r).accepted ≡ r.accepted + length (word_list (accepted_word number o r))
counted number None r = omega arith
counted number (Some w) r = counted_one (is_accepted number r) w r

told_ok : (b : BoardValue) (s : BusState) (a : Result machine.Stepped Stop) (done : Stepped) → answer_of b s a ≡ Ok done
    → done.accepted ≡ accepted_word s.outnum s.offered b.receiver
told_ok b s (Ok d) done e = cc
told_ok b s (Err x) done e = cc

told_err : (b : BoardValue) (s : BusState) (a : Result machine.Stepped Stop) (stop : Stop) → answer_of b s a ≡ Err stop → (e : Stop) × (a ≡ Err e)
told_err b s (Ok d) stop e = cc
told_err b s (Err x) stop e = (x, refl)

executed_counts : (b : BoardValue) (i : Instr) (done : Stepped) → (executed b i).answer ≡ Ok done
    → (executed b i).board.receiver.accepted ≡ b.receiver.accepted + length (word_list done.accepted)
executed_counts b i done e =
    let o = execution board_bus i (registers_of b.cpu) (opened b) in
    counted o.bus.outnum o.bus.offered b.receiver ∙ ap (λ x. b.receiver.accepted + length (word_list x)) (sym (told_ok b o.bus o.answer done e))

quiet : (i : Instr) (r : Registers) (s : BusState) (m : Access BusState (Registers × Option Written)) → Ends board_bus 2 s m → s.offered ≡ None
    → (e : Stop) → (outcome_of i r m).answer ≡ Err e → (outcome_of i r m).bus.offered ≡ None
quiet i r s (Completed x t) h off e is = cc
quiet i r s (Faulted f a t) h off e is = let g = only_takes 2 s t h in ap (λ x. x.offered) g.same ∙ off

refused_counts : (b : BoardValue) (i : Instr) (stop : Stop) → (executed b i).answer ≡ Err stop → (executed b i).board.receiver.accepted ≡ b.receiver.accepted
refused_counts b i stop e =
    let r = registers_of b.cpu in
    let o = execution board_bus i r (opened b) in
    let t = told_err b o.bus o.answer stop e in
    let off = quiet i r (opened b) (effect board_bus i r (opened b)) (effect_ends board_bus i r (opened b)) refl t.0 t.1 in
    ap (λ x. (receiver_after o.bus.outnum x b.receiver).accepted) off

-- an acceptance offers nothing
silent : (s : BusState) (b : Bool) (r f : List ℕ) → (if b then record s { ram = r } else record s { fram = f }).offered ≡ s.offered
silent s true r f = refl
silent s false r f = refl

accepting_offers_nothing : (b : BoardValue) → (acceptance_on (registers_of b.cpu) (opened b)).bus.offered ≡ None
accepting_offers_nothing b =
    let r = registers_of b.cpu in
    let first = silent (opened b) (is_ram (return_place r)) _ _ in
    of_acceptance (λ o. o.bus.offered ≡ None) r (opened b) (λ a. refl)
    (λ _ _. silent (with_word (opened b) (return_place r) (r 0)) (is_ram (status_place r)) _ _ ∙ first)

accepting_counts : (b : BoardValue) → (acceptance b).board.receiver ≡ b.receiver
accepting_counts b =
    let o = acceptance_on (registers_of b.cpu) (opened b) in
    ap (λ x. receiver_after o.bus.outnum x b.receiver) (accepting_offers_nothing b)

accepting_tells : (b : BoardValue) (done : Stepped) → (acceptance b).answer ≡ Ok done → done.accepted ≡ None
accepting_tells b done e =
    let o = acceptance_on (registers_of b.cpu) (opened b) in
    told_ok b o.bus o.answer done e ∙ ap (λ x. accepted_word o.bus.outnum x b.receiver) (accepting_offers_nothing b)

performed_counts : (b : BoardValue) (n : NextStep) (done : Stepped) → (performed b n).answer ≡ Ok done
    → (performed b n).board.receiver.accepted ≡ b.receiver.accepted + length (word_list done.accepted)
performed_counts b next_step.Acceptance done e =
    let same = ap (λ x. x.accepted) (accepting_counts b) in
    let none = ap (λ x. length (word_list x)) (accepting_tells b done e) in
    omega arith
performed_counts b (next_step.Instruction i) done e = executed_counts b i done e

stopped_counts : (b : BoardValue) (n : NextStep) (stop : Stop) → (performed b n).answer ≡ Err stop
    → (performed b n).board.receiver.accepted ≡ b.receiver.accepted
stopped_counts b next_step.Acceptance stop e = ap (λ x. x.accepted) (accepting_counts b)
stopped_counts b (next_step.Instruction i) stop e = refused_counts b i stop e

words-append : (ms ns : List Moment) → accepted_words (ms ++ ns) ≡ accepted_words ms ++ accepted_words ns
words-append [] ns = refl
words-append (m ∷ ms) ns =
    ap (λ ws. accepted_by m.action ++ ws) (words-append ms ns) ∙ sym (append_assoc (accepted_by m.action) (accepted_words ms) (accepted_words ns))

length-words : (ms ns : List Moment) → length (accepted_words (ms ++ ns)) ≡ length (accepted_words ms) + length (accepted_words ns)
length-words ms ns = ap (λ ws. length ws) (words-append ms ns) ∙ length-append (accepted_words ms) (accepted_words ns)

charge_counts : (m : Measure) (left : ℕ) (b : BoardValue) (r : RunOutcome) → ChargeRun m left b r
    → r.board.receiver.accepted ≡ b.receiver.accepted + length (accepted_words r.moments)
charge_counts m left b r (Spent _ _ none) = omega arith
charge_counts m left b r (NoInstruction _ _ e pos h) = omega arith
charge_counts m left b r (TooDear _ _ i pos c dear) = omega arith
charge_counts m left b r (Refused _ _ i e pos c paid a) = let h = stopped_counts b i e a in omega arith
charge_counts m left b r (Executed _ _ i done rest pos c paid a h) =
    let first = performed_counts b i done a in
    let next = charge_counts m _ (at_boundary (performed b i).board) rest h in
    let parts = length-append (word_list done.accepted) (accepted_words rest.moments) in
    omega arith

run_counts : (cs : List BoardCharge) (b : BoardValue) (r : RunOutcome) → Run cs b r
    → r.board.receiver.accepted ≡ b.receiver.accepted + length (accepted_words r.moments)
run_counts cs b r (Over _) = omega arith
run_counts cs b r (Next c ds _ ms end rest h k) =
    let first = charge_counts c.measure c.amount _ _ h in
    let next = run_counts ds end rest k in
    let parts = length-words ms rest.moments in
    omega arith
run_counts cs b r (Last c ds _ ms stop end h) = let first = charge_counts c.measure c.amount _ _ h in omega arith

pub accepted_are_counted : AcceptedAreCounted
accepted_are_counted cs b r h = run_counts cs b r h
