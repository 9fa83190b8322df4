-- A board steps in one way, and has one run under any charges.
use Rattle.std.proofs.Common.{◌≡◌, ◌≤◌, ◌<◌, ◌-◌, arith, ℕ, zero, suc, refl, sym, ◌∙◌, ap, subst, ◌⊎◌, inl, inr, List, [], ◌∷◌}
use Rattle.std.proofs.Common.{Result, Ok, Err, Bool, true, false, None}
use Rattle.std.proofs.lemmas.Bool.{cases_lt}
use Rattle.msp_isa.specs.declared.instructions.Instr.{Instr}
use Rattle.msp_cycles.specs.Cycles.{cycles_of}
use Rattle.msp_step.specs.declared.machine.Stop.{Stop}
use Rattle.msp_step.specs.declared.machine.Stop.TheVariants as stop
use Rattle.msp_step.specs.Registers.{registers_of}
use Rattle.msp_step.specs.Step.{off_bit}
use Rattle.msp_step.proofs.Interface.{same_current, same_stop, not_stopped}
use Rattle.fram_board.specs.declared.board.NextStep.{NextStep}
use Rattle.fram_board.specs.declared.board.NextStep.TheVariants as next_step
use Rattle.fram_board.specs.declared.board.Stepped.{Stepped}
use Rattle.fram_board.specs.Bus.{board_bus}
use Rattle.fram_board.specs.Board.{BoardValue, BoardOutcome, opened, performed, powered, at_boundary, is_accepting}
use Rattle.fram_board.specs.Board.{IsNextInstruction, IsStoppedBy, IsNextStep, HasNoStep}
use Rattle.fram_board.specs.Steps.{IsBoardStep, Performs, Halts}
use Rattle.fram_board.specs.Run.{Measure, Cycles, Instructions, BoardCharge, price, Moment, End, Charges, Stopped, RunOutcome, run_outcome, after_moments}
use Rattle.fram_board.specs.Run.{ChargeRun, Spent, NoInstruction, TooDear, Refused, Executed, power_up_of, moment_of, Run, Over, Next, Last}
use Rattle.fram_board.specs.Laws.{IsDeterminedStep, HasRun, HasOneRun}
use Rattle.fram_board.proofs.Fits.{InstructionOrStop, instruction_or_stop}

-- the instruction at PC, or why there is none
CurrentOrStop : BoardValue → Type 0
CurrentOrStop b = ((i : Instr) × IsNextInstruction b i) ⊎ ((e : Stop) × IsStoppedBy b e)

on_stop : (b : BoardValue) → off_bit (registers_of b.cpu) ≡ 0 → InstructionOrStop board_bus (opened b) (registers_of b.cpu 0) → CurrentOrStop b
unfolding CurrentOrStop
on_stop b on (inl i) = inl (i.0, record { on = on; is = i.1; fetched = i.2 })
on_stop b on (inr (stop.Off, h)) = absurd h
on_stop b on (inr (stop.Illegal pc w, h)) = inr (stop.Illegal pc w, (on, h))
on_stop b on (inr (stop.Bus pc a, h)) = inr (stop.Bus pc a, (on, h))
on_stop b on (inr (stop.NoReading, h)) = absurd h

off_or_on : (b : BoardValue) → (0 < off_bit (registers_of b.cpu)) ⊎ (off_bit (registers_of b.cpu) ≤ 0) → CurrentOrStop b
unfolding CurrentOrStop
off_or_on b (inl h) = let e : off_bit (registers_of b.cpu) ≡ 1 = omega arith in inr (stop.Off, e)
off_or_on b (inr h) = on_stop b (omega arith) (instruction_or_stop board_bus (opened b) (registers_of b.cpu 0))

-- the next step, or why there is none
NextOrStop : BoardValue → Type 0
NextOrStop b = ((n : NextStep) × IsNextStep b n) ⊎ ((e : Stop) × HasNoStep b e)

not_accepting : (b : BoardValue) → is_accepting b ≡ false → CurrentOrStop b → NextOrStop b
unfolding CurrentOrStop NextOrStop
not_accepting b none (inl i) = inl (next_step.Instruction i.0, (none, i.1))
not_accepting b none (inr e) = inr (e.0, record { none = none; stopped = e.1 })

accepting_or_not : (b : BoardValue) (a : Bool) → is_accepting b ≡ a → NextOrStop b
unfolding NextOrStop
accepting_or_not b true is = inl (next_step.Acceptance, is)
accepting_or_not b false is = not_accepting b is (off_or_on b (cases_lt 0 (off_bit (registers_of b.cpu))))

next_or_stop : (b : BoardValue) → NextOrStop b
next_or_stop b = accepting_or_not b (is_accepting b) refl

cycles_low : (i : Instr) → 1 ≤ cycles_of i
cycles_low i = grind arith

-- each step costs something, by either measure
pub price_low : (m : Measure) (n : NextStep) → 1 ≤ price m n
price_low Cycles next_step.Acceptance = omega arith
price_low Cycles (next_step.Instruction i) = cycles_low i
price_low Instructions n = omega arith

-- a charge has a run: fuel is no less than what is left
abbrev HasCharge : Measure → ℕ → BoardValue → Type 0
HasCharge m left b = (r : RunOutcome) × ChargeRun m left b r

answered : (m : Measure) (fuel left : ℕ) (b : BoardValue) (i : NextStep) → ((l : ℕ) (c : BoardValue) → l ≤ fuel → HasCharge m l c) → left ≤ suc fuel → 0 < left
    → IsNextStep b i → price m i ≤ left
    → (a : Result Stepped Stop) → (performed b i).answer ≡ a → HasCharge m left b
answered m fuel left b i next enough pos current paid (Err e) is = (_, Refused left b i e pos current paid is)
answered m fuel left b i next enough pos current paid (Ok done) is =
    let low = price_low m i in
    let rest = next (left - price m i) (at_boundary (performed b i).board) (omega arith) in
    (_, Executed left b i done rest.0 pos current paid is rest.1)

priced : (m : Measure) (fuel left : ℕ) (b : BoardValue) (i : NextStep) → ((l : ℕ) (c : BoardValue) → l ≤ fuel → HasCharge m l c) → left ≤ suc fuel → 0 < left
    → IsNextStep b i
    → (left < price m i) ⊎ (price m i ≤ left) → HasCharge m left b
priced m fuel left b i next enough pos current (inl dear) = (_, TooDear left b i pos current dear)
priced m fuel left b i next enough pos current (inr paid) = answered m fuel left b i next enough pos current paid (performed b i).answer refl

stopped_or_priced : (m : Measure) (fuel left : ℕ) (b : BoardValue) → ((l : ℕ) (c : BoardValue) → l ≤ fuel → HasCharge m l c) → left ≤ suc fuel → 0 < left
    → NextOrStop b → HasCharge m left b
unfolding NextOrStop
stopped_or_priced m fuel left b next enough pos (inl i) = priced m fuel left b i.0 next enough pos i.1 (cases_lt left (price m i.0))
stopped_or_priced m fuel left b next enough pos (inr e) = (_, NoInstruction left b e.0 pos e.1)

spent_or_not : (m : Measure) (fuel left : ℕ) (b : BoardValue) → ((l : ℕ) (c : BoardValue) → l ≤ fuel → HasCharge m l c) → left ≤ suc fuel
    → (0 < left) ⊎ (left ≤ 0) → HasCharge m left b
spent_or_not m fuel left b next enough (inl pos) = stopped_or_priced m fuel left b next enough pos (next_or_stop b)
spent_or_not m fuel left b next enough (inr none) = (_, Spent left b (omega arith))

charge_from : (m : Measure) (fuel left : ℕ) (b : BoardValue) → left ≤ fuel → HasCharge m left b
charge_from m zero left b enough = (_, Spent left b (omega arith))
charge_from m (suc fuel) left b enough = spent_or_not m fuel left b (charge_from m fuel) enough (cases_lt 0 left)

-- a charge has a run
pub charge_run : (m : Measure) (left : ℕ) (b : BoardValue) → HasCharge m left b
charge_run m left b = charge_from m left left b (omega arith)

-- a run by its first charge
ended : (c : BoardCharge) (cs : List BoardCharge) (b : BoardValue) → ((d : BoardValue) → (r : RunOutcome) × Run cs d r)
    → (ms : List Moment) (e : End) (end : BoardValue)
    → ChargeRun c.measure c.amount (powered b c.start) (run_outcome ms e end) → (r : RunOutcome) × Run (c ∷ cs) b r
ended c cs b next ms Charges end h = let rest = next end in (_, Next c cs b ms end rest.0 h rest.1)
ended c cs b next ms (Stopped stop) end h = (_, Last c cs b ms stop end h)

-- a board has a run under any charges
pub has_run : HasRun
has_run [] b = (_, Over b)
has_run (c ∷ cs) b =
    let first = charge_run c.measure c.amount (powered b c.start) in
    ended c cs b (has_run cs) first.0.moments first.0.ending first.0.board first.1

ok_same : {x y : Stepped} {r : Result Stepped Stop} → r ≡ Ok x → r ≡ Ok y → x ≡ y
ok_same a b = let e = sym a ∙ b in cc

err_same : {x y : Stop} {r : Result Stepped Stop} → r ≡ Err x → r ≡ Err y → x ≡ y
err_same a b = let e = sym a ∙ b in cc

ok_err : {x : Stepped} {y : Stop} {r : Result Stepped Stop} → r ≡ Ok x → r ≡ Err y → ⊥
ok_err a b = let e = sym a ∙ b in cc

-- two next steps of one board are the same
same_next : (b : BoardValue) (n m : NextStep) → IsNextStep b n → IsNextStep b m → m ≡ n
same_next b next_step.Acceptance next_step.Acceptance h k = refl
same_next b next_step.Acceptance (next_step.Instruction j) h k = let e = sym h ∙ k.0 in cc
same_next b (next_step.Instruction i) next_step.Acceptance h k = let e = sym h.0 ∙ k in cc
same_next b (next_step.Instruction i) (next_step.Instruction j) h k =
    ap (λ x. next_step.Instruction x) (same_current board_bus (registers_of b.cpu) (opened b) j i k.1 h.1)

no_stop : (b : BoardValue) (e : Stop) (n : NextStep) → HasNoStep b e → IsNextStep b n → ⊥
no_stop b e next_step.Acceptance h k = let f = sym h.none ∙ k in cc
no_stop b e (next_step.Instruction i) h k = not_stopped board_bus (registers_of b.cpu) (opened b) e i h.stopped k.1

same_halt : (b : BoardValue) (e f : Stop) → HasNoStep b e → HasNoStep b f → e ≡ f
same_halt b e f h k = same_stop board_bus (registers_of b.cpu) (opened b) e f h.stopped k.stopped

-- a board steps in one way
steps_once : (b : BoardValue) (x y : BoardOutcome) → IsBoardStep b x → IsBoardStep b y → x ≡ y
steps_once b x y (Performs n h) (Performs m k) = ap (λ z. performed b z) (same_next b m n k h)
steps_once b x y (Performs n h) (Halts e k) = absurd (no_stop b e n k h)
steps_once b x y (Halts e h) (Performs n k) = absurd (no_stop b e n h k)
steps_once b x y (Halts e h) (Halts f k) =
    ap {B = BoardOutcome} (λ z. record { answer = Err z; offered = None; board = b }) (same_halt b e f h k)

pub determined_step : IsDeterminedStep
determined_step b x y h k = steps_once b x y h k

too_dear : (m : Measure) (left : ℕ) (i j : NextStep) → j ≡ i → left < price m i → price m j ≤ left → ⊥
too_dear m left i j e dear paid = let f = ap (λ x. price m x) e in omega arith

refused_same : (b : BoardValue) (i j : NextStep) (x y : Stop) → j ≡ i → (performed b i).answer ≡ Err x → (performed b j).answer ≡ Err y
    → run_outcome [] (Stopped x) (performed b i).board ≡ run_outcome [] (Stopped y) (performed b j).board
refused_same b i j x y e f g =
    let h = err_same f (sym (ap (λ k. (performed b k).answer) e) ∙ g) in
    ap (λ z. run_outcome [] (Stopped z) (performed b i).board) h ∙ ap (λ k. run_outcome [] (Stopped y) (performed b k).board) (sym e)

refused_executed : (b : BoardValue) (i j : NextStep) (x : Stop) (done : Stepped) → j ≡ i → (performed b i).answer ≡ Err x → (performed b j).answer ≡ Ok done → ⊥
refused_executed b i j x done e f g = ok_err (sym (ap (λ k. (performed b k).answer) e) ∙ g) f

executed_same : (b : BoardValue) (i : NextStep) (x y : Stepped) (r s : RunOutcome) → (performed b i).answer ≡ Ok x → (performed b i).answer ≡ Ok y → r ≡ s
    → after_moments (moment_of b i x ∷ []) r ≡ after_moments (moment_of b i y ∷ []) s
executed_same b i x y r s f g e = ap (λ z. after_moments (moment_of b i z ∷ []) r) (ok_same f g) ∙ ap (λ z. after_moments (moment_of b i y ∷ []) z) e

pub one_charge : (m : Measure) (left : ℕ) (b : BoardValue) (r : RunOutcome) → ChargeRun m left b r → (s : RunOutcome) → ChargeRun m left b s → r ≡ s
one_charge m left b r (Spent _ _ none) s (Spent _ _ none') = refl
one_charge m left b r (Spent _ _ none) s (NoInstruction _ _ e pos h) = absurd (omega arith)
one_charge m left b r (Spent _ _ none) s (TooDear _ _ i pos c dear) = absurd (omega arith)
one_charge m left b r (Spent _ _ none) s (Refused _ _ i e pos c paid a) = absurd (omega arith)
one_charge m left b r (Spent _ _ none) s (Executed _ _ i done rest pos c paid a h) = absurd (omega arith)
one_charge m left b r (NoInstruction _ _ e pos h) s (Spent _ _ none) = absurd (omega arith)
one_charge m left b r (NoInstruction _ _ e pos h) s (NoInstruction _ _ f pos' k) =
    ap (λ x. run_outcome [] (Stopped x) b) (same_halt b e f h k)
one_charge m left b r (NoInstruction _ _ e pos h) s (TooDear _ _ i pos' c dear) = absurd (no_stop b e i h c)
one_charge m left b r (NoInstruction _ _ e pos h) s (Refused _ _ i f pos' c paid a) = absurd (no_stop b e i h c)
one_charge m left b r (NoInstruction _ _ e pos h) s (Executed _ _ i done rest pos' c paid a k) = absurd (no_stop b e i h c)
one_charge m left b r (TooDear _ _ i pos c dear) s (Spent _ _ none) = absurd (omega arith)
one_charge m left b r (TooDear _ _ i pos c dear) s (NoInstruction _ _ e pos' h) = absurd (no_stop b e i h c)
one_charge m left b r (TooDear _ _ i pos c dear) s (TooDear _ _ j pos' d dear') = refl
one_charge m left b r (TooDear _ _ i pos c dear) s (Refused _ _ j e pos' d paid a) = absurd (too_dear m left i j (same_next b i j c d) dear paid)
one_charge m left b r (TooDear _ _ i pos c dear) s (Executed _ _ j done rest pos' d paid a h) = absurd (too_dear m left i j (same_next b i j c d) dear paid)
one_charge m left b r (Refused _ _ i e pos c paid a) s (Spent _ _ none) = absurd (omega arith)
one_charge m left b r (Refused _ _ i e pos c paid a) s (NoInstruction _ _ f pos' h) = absurd (no_stop b f i h c)
one_charge m left b r (Refused _ _ i e pos c paid a) s (TooDear _ _ j pos' d dear) = absurd (too_dear m left j i (same_next b j i d c) dear paid)
one_charge m left b r (Refused _ _ i e pos c paid a) s (Refused _ _ j f pos' d paid' a') = refused_same b i j e f (same_next b i j c d) a a'
one_charge m left b r (Refused _ _ i e pos c paid a) s (Executed _ _ j done rest pos' d paid' a' h) =
    absurd (refused_executed b i j e done (same_next b i j c d) a a')
one_charge m left b r (Executed _ _ i done rest pos c paid a h) s (Spent _ _ none) = absurd (omega arith)
one_charge m left b r (Executed _ _ i done rest pos c paid a h) s (NoInstruction _ _ f pos' k) = absurd (no_stop b f i k c)
one_charge m left b r (Executed _ _ i done rest pos c paid a h) s (TooDear _ _ j pos' d dear) = absurd (too_dear m left j i (same_next b j i d c) dear paid)
one_charge m left b r (Executed _ _ i done rest pos c paid a h) s (Refused _ _ j e pos' d paid' a') =
    absurd (refused_executed b j i e done (same_next b j i d c) a' a)
one_charge m left b r (Executed _ _ i done rest pos c paid a h) s (Executed _ _ j done' rest' pos' d paid' a' h') =
    let P : NextStep → Type 0 = λ k. (performed b k).answer ≡ Ok done' → ChargeRun m (left - price m k) (at_boundary (performed b k).board) rest'
    → after_moments (moment_of b i done ∷ []) rest ≡ after_moments (moment_of b k done' ∷ []) rest' in
    let at_i : P i = λ f k. executed_same b i done done' rest rest' a f (one_charge m (left - price m i) (at_boundary (performed b i).board) rest h rest' k) in
    let at_j : P j = subst P (sym (same_next b i j c d)) at_i in
    at_j a' h'

-- two runs of a board under the same charges
next_same : (c : BoardCharge) (b : BoardValue) (ms ns : List Moment) (r s : RunOutcome) → ms ≡ ns → r ≡ s
    → after_moments (power_up_of b c.start ∷ ms) r ≡ after_moments (power_up_of b c.start ∷ ns) s
next_same c b ms ns r s e f = ap (λ x. after_moments (power_up_of b c.start ∷ x) r) e ∙ ap (λ x. after_moments (power_up_of b c.start ∷ ns) x) f

same_charge : (c : BoardCharge) (b : BoardValue) (r s : RunOutcome) → ChargeRun c.measure c.amount (powered b c.start) r
    → ChargeRun c.measure c.amount (powered b c.start) s → r ≡ s
same_charge c b r s h k = one_charge c.measure c.amount (powered b c.start) r h s k

one_run : (cs : List BoardCharge) (b : BoardValue) (r : RunOutcome) → Run cs b r → (s : RunOutcome) → Run cs b s → r ≡ s
one_run cs b r (Over _) s (Over _) = refl
one_run cs b r (Next c ds _ ms end rest h k) s (Next _ _ _ ns end' rest' h' k') =
    let e = same_charge c b _ _ h h' in
    let to : end' ≡ end = sym (ap (λ x. x.board) e) in
    let P : BoardValue → Type 0 = λ x. Run ds x rest' in
    next_same c b ms ns rest rest' (ap (λ x. x.moments) e) (one_run ds end rest k rest' (subst P to k'))
one_run cs b r (Next c ds _ ms end rest h k) s (Last _ _ _ ns stop end' h') = let e = ap (λ x. x.ending) (same_charge c b _ _ h h') in cc
one_run cs b r (Last c ds _ ms stop end h) s (Next _ _ _ ns end' rest' h' k') = let e = ap (λ x. x.ending) (same_charge c b _ _ h h') in cc
one_run cs b r (Last c ds _ ms stop end h) s (Last _ _ _ ns stop' end' h') =
    let e = same_charge c b _ _ h h' in
    ap (λ x. run_outcome (power_up_of b c.start ∷ x.moments) x.ending x.board) e

pub has_one_run : HasOneRun
has_one_run cs b r s h k = one_run cs b r h s k
