-- What an acceptance leaves: two stores, or nothing.
use Rattle.std.proofs.Common.{◌≡◌, ◌%◌, ◌==◌, if◌then◌else◌, not, ℕ, refl, ◌∙◌, ap, Bool, true, false}
use Rattle.std.proofs.Common.{List, [], ◌∷◌, ◌++◌, slice_index, slice_set, Option, Result, Ok, Err}
use Rattle.std.proofs.lemmas.Bool.{and_parts}
use Rattle.msp_cycles.specs.Cycles.{cycles_of}
use Rattle.msp_isa.specs.declared.instructions.Instr.{Instr}
use Rattle.msp_step.specs.declared.machine.Stop.{Stop}
use Rattle.msp_step.specs.declared.machine.Stepped as machine
use Rattle.msp_step.specs.Registers.{Registers, registers_of}
use Rattle.msp_step.specs.Access.{Access, Completed, Faulted}
use Rattle.msp_step.specs.Effect.{Written}
use Rattle.msp_step.specs.Step.{Outcome, outcome_of, effect, execution, return_place, status_place, interrupted}
use Rattle.state_text.specs.address_space.Limits.{event_vector}
use Rattle.state_text.specs.image_text.ImageValue.{place_of}
use Rattle.fram_board.specs.declared.board.NextStep.{NextStep}
use Rattle.fram_board.specs.declared.board.NextStep.TheVariants as next_step
use Rattle.fram_board.specs.declared.board.Stepped.{Stepped}
use Rattle.fram_board.specs.Bus.{BusState, board_bus, is_ram, is_fram, is_memory, is_word, with_word, ram_place}
use Rattle.fram_board.specs.Board.{BoardValue, BoardOutcome, board_outcome, closed, opened, answer_of, performed, step_cycles}
use Rattle.fram_board.specs.Board.{acceptance_on, acceptance_refused, acceptance_made}
use Rattle.fram_board.specs.Steps.{IsBoardStep, Performs, Halts, StepCosts}
use Rattle.fram_board.specs.Effects.{Effect, Store, store_of, stored, MakesItsStores}
use Rattle.fram_board.specs.Laws.{StepTakesItsCost, AcceptanceMakesItsStores}
use Rattle.fram_board.proofs.Effects.{ram_not_fram, other_is_fram}

-- the bus behind both stores
abbrev pub both_stored : Registers → BusState → BusState
both_stored r s = with_word (with_word s (return_place r) (r 0)) (status_place r) (r 2)

by_tests : (P : Outcome BusState → Type 0) (a b : Bool) (x y z : Outcome BusState) → P x → P y → (a ≡ true → b ≡ true → P z)
    → P (if not a then x else if not b then y else z)
by_tests P true true x y z p q h = h refl refl
by_tests P true false x y z p q h = q
by_tests P false b x y z p q h = p

-- what holds of an acceptance that is refused, and of one that is made, holds of an acceptance
pub of_acceptance : (P : Outcome BusState → Type 0) (r : Registers) (s : BusState) → ((a : ℕ) → P (acceptance_refused r s a))
    → (is_word (return_place r) ≡ true → is_word (status_place r) ≡ true → P (acceptance_made r (both_stored r s))) → P (acceptance_on r s)
of_acceptance P r s refused made =
    by_tests P (is_word (return_place r)) (is_word (status_place r)) _ _ _ (refused (return_place r)) (refused (status_place r)) made

-- where both places are words of memory it is made
pub made_is : (r : Registers) (s : BusState) → is_word (return_place r) ≡ true → is_word (status_place r) ≡ true
    → acceptance_on r s ≡ acceptance_made r (both_stored r s)
made_is r s e f = rw (e, f) refl

-- where the first isn't, nothing is done
pub first_refused : (r : Registers) (s : BusState) → is_word (return_place r) ≡ false → acceptance_on r s ≡ acceptance_refused r s (return_place r)
first_refused r s e = rw e refl

-- nor where the second isn't
pub second_refused : (r : Registers) (s : BusState) → is_word (return_place r) ≡ true → is_word (status_place r) ≡ false
    → acceptance_on r s ≡ acceptance_refused r s (status_place r)
second_refused r s e f = rw (e, f) refl

-- an answer that is made tells the cycles that the CPU took
cycles_told : (b : BoardValue) (s : BusState) (r : Result machine.Stepped Stop) (done : Stepped) → answer_of b s r ≡ Ok done
    → (d : machine.Stepped) × (r ≡ Ok d) × (d.cycles ≡ done.cycles)
cycles_told b s (Ok d) done e = (d, refl, cc)
cycles_told b s (Err e) done h = cc

ran_cycles : (b : BoardValue) (s : BusState) (i : Instr) (r : Registers) (m : Access BusState (Registers × Option Written)) (done : Stepped)
    → answer_of b s (outcome_of i r m).answer ≡ Ok done → done.cycles ≡ cycles_of i
ran_cycles b s i r (Completed x t) done e = let told = cycles_told b s (outcome_of {S = BusState} i r (Completed x t)).answer done e in cc
ran_cycles b s i r (Faulted f a t) done e = let told = cycles_told b s (outcome_of {S = BusState} i r (Faulted f a t)).answer done e in cc

-- an outcome that takes six cycles, if it is made
abbrev TakesSix : BoardValue → Outcome BusState → Type 0
TakesSix b o = (done : Stepped) → answer_of b o.bus o.answer ≡ Ok done → done.cycles ≡ 6

six_or_none : (b : BoardValue) (r : Registers) (s : BusState) → TakesSix b (acceptance_on r s)
six_or_none b r s = of_acceptance (TakesSix b) r s
    (λ a done e. let told = cycles_told b s (acceptance_refused r s a).answer done e in cc)
    (λ _ _ done e. let told = cycles_told b (both_stored r s) (acceptance_made r (both_stored r s)).answer done e in cc)

-- a step that is made takes its cycles
pub performed_cycles : (b : BoardValue) (n : NextStep) (done : Stepped) → (performed b n).answer ≡ Ok done → done.cycles ≡ step_cycles n
performed_cycles b next_step.Acceptance done e = six_or_none b (registers_of b.cpu) (opened b) done e
performed_cycles b (next_step.Instruction i) done e =
    ran_cycles b (execution board_bus i (registers_of b.cpu) (opened b)).bus i (registers_of b.cpu) (effect board_bus i (registers_of b.cpu) (opened b)) done e

cost_of : (b : BoardValue) (x : BoardOutcome) → IsBoardStep b x → (done : Stepped) → x.answer ≡ Ok done → StepCosts b (Ok done.cycles)
cost_of b x (Performs n h) done is = (n, h, performed_cycles b n done is)
cost_of b x (Halts stop h) done is = cc

-- a step that is made takes the cycles that the board's cost answers
pub step_takes_its_cost : StepTakesItsCost
step_takes_its_cost b x done h is = cost_of b x h done is

-- the store of a word of memory, if it is one to FRAM
word_stored : (s : BusState) (a v : ℕ) (ram : Bool) → is_ram a ≡ ram → is_memory a ≡ true
    → (if ram then record s { ram = slice_set s.ram (ram_place a) v } else record s { fram = slice_set s.fram (place_of a) v }).fram
    ≡ stored (store_of a v) s.fram
word_stored s a v true e m = rw (ram_not_fram a e) refl
word_stored s a v false e m = rw (other_is_fram a e m) refl

-- it is the same on any board
stored_by : (s : BusState) (a v : ℕ) → is_word a ≡ true → (with_word s a v).fram ≡ stored (store_of a v) s.fram
stored_by s a v is = word_stored s a v (is_ram a) refl (and_parts (a % 2 == 0) (is_memory a) is).1

stored_either : (test : Bool) (a v : ℕ) (es : List Effect) (f : List ℕ)
    → stored es (stored (if test then Store a v ∷ [] else []) f) ≡ stored ((if test then Store a v ∷ [] else []) ++ es) f
stored_either true a v es f = refl
stored_either false a v es f = refl

stored_append : (a v b w : ℕ) (f : List ℕ) → stored (store_of b w) (stored (store_of a v) f) ≡ stored (store_of a v ++ store_of b w) f
stored_append a v b w f = stored_either (is_fram a) a v (store_of b w) f

-- all but memory stays
pub record KeepsOutside (s t : BusState) : Type 0 where
  pub same : t ≡ record s { fram = t.fram; ram = t.ram }

kept_by_test : (s : BusState) (b : Bool) (r f : List ℕ) → KeepsOutside s (if b then record s { ram = r } else record s { fram = f })
kept_by_test s true r f = record { same = refl }
kept_by_test s false r f = record { same = refl }

-- and so behind both stores
pub both_kept : (r : Registers) (s : BusState) → KeepsOutside s (both_stored r s)
both_kept r s =
    let first = kept_by_test s (is_ram (return_place r)) _ _ in
    let second = kept_by_test (with_word s (return_place r) (r 0)) (is_ram (status_place r)) _ _ in
    let t = both_stored r s in
    record { same = second.same ∙ ap {A = BusState} (λ x. record x { fram = t.fram; ram = t.ram }) first.same }

-- what an outcome of the CPU leaves on the board, where it is made
abbrev StoresAsMade : BoardValue → Outcome BusState → Type 0
StoresAsMade b o = (done : Stepped) → (board_outcome b o).answer ≡ Ok done → MakesItsStores b (board_outcome b o).board

fram_stored : (r : Registers) (s : BusState) → is_word (return_place r) ≡ true → is_word (status_place r) ≡ true
    → (both_stored r s).fram ≡ stored (store_of (return_place r) (r 0) ++ store_of (status_place r) (r 2)) s.fram
fram_stored r s first second =
    stored_by (with_word s (return_place r) (r 0)) (status_place r) (r 2) second
    ∙ ap (λ f. stored (store_of (status_place r) (r 2)) f) (stored_by s (return_place r) (r 0) first)
    ∙ stored_append (return_place r) (r 0) (status_place r) (r 2) s.fram

made_stores : (b : BoardValue) → is_word (return_place (registers_of b.cpu)) ≡ true → is_word (status_place (registers_of b.cpu)) ≡ true
    → StoresAsMade b (acceptance_made (registers_of b.cpu) (both_stored (registers_of b.cpu) (opened b)))
made_stores b first second done is =
    let r = registers_of b.cpu in
    let s = both_stored r (opened b) in
    record {
      fram = fram_stored r (opened b) first second;
      same = ap (λ t. closed b (interrupted r (slice_index s.fram (place_of event_vector))) t) (both_kept r (opened b)).same;
    }

pub acceptance_makes_its_stores : AcceptanceMakesItsStores
acceptance_makes_its_stores b done is =
    let r = registers_of b.cpu in
    of_acceptance (StoresAsMade b) r (opened b)
    (λ a done e. let told = cycles_told b (opened b) (acceptance_refused r (opened b) a).answer done e in cc) (made_stores b) done is
