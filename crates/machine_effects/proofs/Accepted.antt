-- The words that a charge's moments tell are those that its effects make the receiver accept.
use Rattle.std.proofs.Common.{◌≡◌, ◌==◌, ◌-◌, ◌%◌, ◌⊎◌, inl, inr, ⊎_elim, arith, ℕ, refl, sym, ◌∙◌, ap, ap₂, subst, Bool, true, false}
use Rattle.std.proofs.Common.{not, if◌then◌else◌, List, []}
use Rattle.std.proofs.Common.{◌∷◌, ◌++◌, map, length, length-append, append_assoc, append-nil, slice_range, slice_index, Option, Some, None, Result, Ok, Err}
use Rattle.fram_board.specs.alp_words.declared.Width.{Width}
use Rattle.fram_board.specs.alp_words.declared.Width.TheVariants.{Word, Byte}
use Rattle.fram_board.specs.msp_isa.declared.instructions.Instr.{Instr}
use Rattle.fram_board.specs.msp_isa.declared.instructions.Instr.TheVariants as instr
use Rattle.fram_board.specs.msp_step.declared.machine.Stop.{Stop}
use Rattle.fram_board.specs.msp_step.declared.machine.Stepped as cpu
use Rattle.fram_board.specs.msp_step.Registers.{Registers, registers_of}
use Rattle.fram_board.specs.msp_step.Access.{Access, Completed, Faulted}
use Rattle.fram_board.specs.msp_step.Effect.{Written}
use Rattle.fram_board.specs.msp_step.Step.{effect, Outcome, execution, outcome_of, return_place, status_place}
use Rattle.fram_board.specs.msp_step.Laws.{AfterWrite}
use Rattle.fram_board.proofs.msp_step.Interface.{Ends, effect_ends}
use Rattle.fram_board.specs.image_text.ImageValue.{place_of}
use Rattle.fram_board.specs.declared.board.NextStep.{NextStep}
use Rattle.fram_board.specs.declared.board.NextStep.TheVariants as next_step
use Rattle.fram_board.specs.declared.board.Stepped.{Stepped}
use Rattle.fram_board.specs.declared.receiver.Receiver.{Receiver}
use Rattle.fram_board.specs.Bus.{BusState, board_bus, is_ram, is_fram, is_memory, is_word, memory_word, with_word, with_byte, written, port_written}
use Rattle.fram_board.specs.Bus.{number_port, data_port, answer_port, data_written, answer_written}
use Rattle.fram_board.specs.declared.radio.Radio.{Radio}
use Rattle.fram_board.specs.declared.radio.Radio.TheVariants.{Alone, Sends, Listens}
use Rattle.fram_board.specs.Board.{BoardValue, BoardOutcome, opened, answer_of, board_outcome, executed, acceptance_on, acceptance, performed, at_boundary}
use Rattle.fram_board.specs.Board.{is_accepted, accepted_word}
use Rattle.fram_board.specs.Saved.{TakesNextBehind}
use Rattle.fram_board.specs.Effects.{Effect, Store, Take, store_at, sends_of, effects_of, store_of, acceptance_effects}
use Rattle.fram_board.specs.Run.{Measure, price, kind_of, moment_of, RunOutcome, ChargeRun, Spent, NoInstruction, TooDear, Refused, Executed}
use Rattle.fram_board.specs.Run.{word_list, accepted_words}
use Rattle.fram_board.proofs.Interface.{only_takes, counted, first_kept}
use Rattle.machine_effects.specs.World.{accepted_after}
use Rattle.machine_effects.specs.Runs.{step_effects, action_effects, moments_effects}
use Rattle.machine_effects.specs.Laws.{StepAcceptsBySends, ChargeAcceptsBySends}
use Rattle.machine_effects.proofs.Worlds.{accepted_after-append}

-- OUTNUM is as before, or nothing is offered
abbrev NumberStays : BusState → BusState → Type 0
NumberStays s t = (t.outnum ≡ s.outnum) ⊎ (t.offered ≡ None)

abbrev StaysIf : BusState → Option BusState → Type 0
StaysIf s None = Unit {0}
StaysIf s (Some t) = NumberStays s t

word_stays : (b : Bool) (s : BusState) (r f : List ℕ) → NumberStays s (if b then record s { ram = r } else record s { fram = f })
word_stays true s r f = inl refl
word_stays false s r f = inl refl

either_stays : (b : Bool) (s : BusState) (x y : Option BusState) → StaysIf s x → StaysIf s y → StaysIf s (if b then x else y)
either_stays true s x y h k = h
either_stays false s x y h k = k

data_stays : (x : Radio) (s : BusState) (v : ℕ) → NumberStays s (data_written x s v)
data_stays Alone s v = inl refl
data_stays (Sends greatest) s v = inl refl
data_stays (Listens number) s v = inl refl

answer_stays : (x : Radio) (s : BusState) (a v : ℕ) → StaysIf s (answer_written x s a v)
answer_stays Alone s a v = tt
answer_stays (Sends greatest) s a v = tt
answer_stays (Listens number) s a v = either_stays (a == answer_port) s (Some (record s { offered = None; sent = Some (v, 0) })) None (inl refl) tt

port_stays : (s : BusState) (a v : ℕ) → s.offered ≡ None → StaysIf s (port_written s a v)
port_stays s a v off =
    either_stays (a == number_port) s (Some (record s { outnum = v })) _ (inr off)
    (either_stays (a == data_port) s (Some (data_written s.radio s v)) (answer_written s.radio s a v) (data_stays s.radio s v) (answer_stays s.radio s a v))

written_stays : (s : BusState) (a : ℕ) (w : Width) (v : ℕ) → s.offered ≡ None → StaysIf s (written s a w v)
written_stays s a Word v off =
    either_stays (is_word a) s (Some (with_word s a v)) (port_written s a v) (word_stays (is_ram a) s _ _)
    (port_stays s a v off)
written_stays s a Byte v off = either_stays (is_memory a) s (Some (with_word s a (with_byte (memory_word s a) a v))) None (word_stays (is_ram a) s _ _) tt

write_stays : (s t : BusState) (w : Option Written) → s.offered ≡ None → AfterWrite board_bus w s t → NumberStays s t
write_stays s t None off h = inl (ap (λ x. x.outnum) h)
write_stays s t (Some w) off h = let P : Option BusState → Type 0 = λ x. StaysIf s x in subst P h.1 (written_stays s w.0 h.0 w.1 off)

access_stays : (i : Instr) (r : Registers) (s : BusState) (m : Access BusState (Registers × Option Written)) → s.offered ≡ None → Ends board_bus 2 s m
    → NumberStays s (outcome_of i r m).bus
access_stays i r s (Completed x t) off h =
    let g = only_takes 2 s h.0 h.1 in
    let before : h.0.outnum ≡ s.outnum = ap (λ y. y.outnum) g.same in
    ⊎_elim {C = NumberStays s t} (λ e. inl (e ∙ before)) (λ e. inr e) (write_stays h.0 t x.1 (ap (λ y. y.offered) g.same ∙ off) h.2)
access_stays i r s (Faulted e a t) off h = let g = only_takes 2 s t h in inl (ap (λ y. y.outnum) g.same)

number_stays : (b : BoardValue) (i : Instr) → NumberStays (opened b) (execution board_bus i (registers_of b.cpu) (opened b)).bus
number_stays b i =
    access_stays i (registers_of b.cpu) (opened b) (effect board_bus i (registers_of b.cpu) (opened b)) refl
    (effect_ends board_bus i (registers_of b.cpu) (opened b))

-- takes and stores reach no receiver
taking_accepts : (xs : List ℕ) (es : List Effect) (ws : List ℕ) → accepted_after (map (λ w. Take w) xs ++ es) ws ≡ accepted_after es ws
taking_accepts [] es ws = refl
taking_accepts (x ∷ xs) es ws = taking_accepts xs es ws

either_accepts : (b : Bool) (a w : ℕ) (es : List Effect) (ws : List ℕ) → accepted_after ((if b then Store a w ∷ [] else []) ++ es) ws ≡ accepted_after es ws
either_accepts true a w es ws = refl
either_accepts false a w es ws = refl

storing_accepts : (o : Option ℕ) (f : List ℕ) (es : List Effect) (ws : List ℕ) → accepted_after (store_at o f ++ es) ws ≡ accepted_after es ws
storing_accepts None f es ws = refl
storing_accepts (Some a) f es ws = either_accepts (is_fram a) (a - a % 2) (slice_index f (place_of a)) es ws

-- a word offered
kept_word : (b : Bool) (w : ℕ) (ws : List ℕ) → (if b then ws ++ w ∷ [] else ws) ≡ ws ++ word_list (if b then Some w else None)
kept_word true w ws = refl
kept_word false w ws = sym (append-nil ws)

sending_accepts : (n k : ℕ) (o : Option ℕ) (r : Receiver) (ws : List ℕ) → TakesNextBehind ws r → (n ≡ k) ⊎ (o ≡ None)
    → accepted_after (sends_of k o) ws ≡ ws ++ word_list (accepted_word n o r)
sending_accepts n k None r ws len h = sym (append-nil ws)
sending_accepts n k (Some w) r ws len (inl e) =
    let test : (k == (length ws % 0x10000)) ≡ is_accepted n r = ap₂ (λ x y. x == y) (sym e) len in
    ap (λ b. if b then ws ++ w ∷ [] else ws) test ∙ kept_word (is_accepted n r) w ws
sending_accepts n k (Some w) r ws len (inr e) = cc

told : (b : BoardValue) (s : BusState) (a : Result cpu.Stepped Stop) (done : Stepped) → answer_of b s a ≡ Ok done
    → done.accepted ≡ accepted_word s.outnum s.offered b.receiver
told b s (Ok d) done e = cc
told b s (Err x) done e = cc

-- the accepted words are counted
counted_behind : (b : BoardValue) (o : Outcome BusState) (done : Stepped) (ws : List ℕ) → (board_outcome b o).answer ≡ Ok done → TakesNextBehind ws b.receiver
    → TakesNextBehind (ws ++ word_list done.accepted) (board_outcome b o).board.receiver
counted_behind b o done ws answer len =
    let after = o.bus in
    let parts = length-append ws (word_list done.accepted) in
    let count = counted after.outnum after.offered b.receiver in
    let first = first_kept after.outnum after.offered b.receiver in
    let same : length (word_list done.accepted) ≡ length (word_list (accepted_word after.outnum after.offered b.receiver)) =
    ap (λ o. length (word_list o)) (told b after o.answer done answer) in
    omega arith

pub count_after : (b : BoardValue) (n : NextStep) (done : Stepped) (ws : List ℕ) → (performed b n).answer ≡ Ok done → TakesNextBehind ws b.receiver
    → TakesNextBehind (ws ++ word_list done.accepted) (performed b n).board.receiver
count_after b next_step.Acceptance done ws answer len = counted_behind b (acceptance_on (registers_of b.cpu) (opened b)) done ws answer len
count_after b (next_step.Instruction i) done ws answer len = counted_behind b (execution board_bus i (registers_of b.cpu) (opened b)) done ws answer len

-- an instruction
instruction_accepts : (b : BoardValue) (i : Instr) (done : Stepped) (ws : List ℕ) → TakesNextBehind ws b.receiver → (executed b i).answer ≡ Ok done
    → accepted_after (effects_of b (record { answer = Ok done; offered = (executed b i).offered; board = (executed b i).board })) ws
    ≡ ws ++ word_list done.accepted
instruction_accepts b i done ws len answer =
    let o = execution board_bus i (registers_of b.cpu) (opened b) in
    let after = o.bus in
    taking_accepts (slice_range b.readings b.taken after.taken) (store_at done.wrote after.fram ++ sends_of b.outnum after.offered) ws
    ∙ storing_accepts done.wrote after.fram (sends_of b.outnum after.offered) ws
    ∙ sending_accepts after.outnum b.outnum after.offered b.receiver ws len (number_stays b i)
    ∙ ap (λ w. ws ++ word_list w) (sym (told b after o.answer done answer))

-- an acceptance offers nothing
word_offers_none : (b : Bool) (s : BusState) (r f : List ℕ) → s.offered ≡ None → (if b then record s { ram = r } else record s { fram = f }).offered ≡ None
word_offers_none true s r f h = h
word_offers_none false s r f h = h

by_tests : (P : Outcome BusState → Type 0) (a b : Bool) (x y z : Outcome BusState) → P x → P y → P z → P (if not a then x else if not b then y else z)
by_tests P true true x y z p q h = h
by_tests P true false x y z p q h = q
by_tests P false b x y z p q h = p

acceptance_offers_none : (r : Registers) (s : BusState) → s.offered ≡ None → (acceptance_on r s).bus.offered ≡ None
acceptance_offers_none r s h =
    let first = with_word s (return_place r) (r 0) in
    by_tests (λ o. o.bus.offered ≡ None) (is_word (return_place r)) (is_word (status_place r)) _ _ _ h h
    (word_offers_none (is_ram (status_place r)) first _ _ (word_offers_none (is_ram (return_place r)) s _ _ h))

store_accepts : (b : Bool) (a w : ℕ) (ws : List ℕ) → accepted_after (if b then Store a w ∷ [] else []) ws ≡ ws
store_accepts true a w ws = refl
store_accepts false a w ws = refl

acceptance_accepts : (b : BoardValue) (done : Stepped) (ws : List ℕ) → (acceptance b).answer ≡ Ok done
    → accepted_after (acceptance_effects b) ws ≡ ws ++ word_list done.accepted
acceptance_accepts b done ws answer =
    let r = registers_of b.cpu in
    let o = acceptance_on r (opened b) in
    let none : done.accepted ≡ None =
    told b o.bus o.answer done answer ∙ ap (λ w. accepted_word o.bus.outnum w b.receiver) (acceptance_offers_none r (opened b) refl) in
    either_accepts (is_fram (return_place r)) (return_place r) (r 0) (store_of (status_place r) (r 2)) ws
    ∙ store_accepts (is_fram (status_place r)) (status_place r) (r 2) ws
    ∙ sym (append-nil ws)
    ∙ ap (λ w. ws ++ word_list w) (sym none)

-- the effects of an instruction, of whichever kind its step is
instruction_effects : (i : Instr) (b : BoardValue) (x : BoardOutcome) → step_effects (kind_of (next_step.Instruction i)) b x ≡ effects_of b x
instruction_effects (instr.Two op w x d) b y = refl
instruction_effects (instr.One o) b y = refl
instruction_effects (instr.Jump c o) b y = refl
instruction_effects instr.Reti b y = refl

-- the effects that the moment of an instruction tells, read off what it did
moment_effects : (b : BoardValue) (i : Instr) (done : Stepped) → let m = moment_of b (next_step.Instruction i) done in
    action_effects m.action m.before m.after ≡ effects_of b (record { answer = Ok done; offered = (executed b i).offered; board = (executed b i).board })
moment_effects b i done = instruction_effects i b _

-- and off the board's outcome
pub told_effects : (b : BoardValue) (i : Instr) (done : Stepped) → (executed b i).answer ≡ Ok done → let m = moment_of b (next_step.Instruction i) done in
    action_effects m.action m.before m.after ≡ effects_of b (executed b i)
told_effects b i done answer =
    moment_effects b i done
    ∙ ap (λ y. effects_of b (record { answer = y; offered = (executed b i).offered; board = (executed b i).board })) (sym answer)

-- the word that the moment of an instruction tells is the one that its effects make the receiver accept
pub moment_accepts : (b : BoardValue) (i : Instr) (done : Stepped) → (executed b i).answer ≡ Ok done → (ws : List ℕ) → TakesNextBehind ws b.receiver
    → let m = moment_of b (next_step.Instruction i) done in
    accepted_after (action_effects m.action m.before m.after) ws ≡ ws ++ word_list done.accepted
moment_accepts b i done answer ws len = ap (λ es. accepted_after es ws) (moment_effects b i done) ∙ instruction_accepts b i done ws len answer

-- and so with any step
pub step_accepts_by_sends : StepAcceptsBySends
step_accepts_by_sends b next_step.Acceptance done ws len answer = acceptance_accepts b done ws answer
step_accepts_by_sends b (next_step.Instruction i) done ws len answer = moment_accepts b i done answer ws len

charge_accepts : (m : Measure) (amount : ℕ) (b : BoardValue) (r : RunOutcome) (ws : List ℕ) → TakesNextBehind ws b.receiver → ChargeRun m amount b r
    → accepted_after (moments_effects r.moments) ws ≡ ws ++ accepted_words r.moments
charge_accepts m amount b r ws len (Spent _ _ none) = sym (append-nil ws)
charge_accepts m amount b r ws len (NoInstruction _ _ e pos h) = sym (append-nil ws)
charge_accepts m amount b r ws len (TooDear _ _ n pos c dear) = sym (append-nil ws)
charge_accepts m amount b r ws len (Refused _ _ n e pos c paid a) = sym (append-nil ws)
charge_accepts m amount b r ws len (Executed _ _ n done rest pos c paid a h) =
    let x = moment_of b n done in
    let one = action_effects x.action x.before x.after in
    let ih = charge_accepts m (amount - price m n) (at_boundary (performed b n).board) rest (ws ++ word_list done.accepted) (count_after b n done ws a len) h in
    accepted_after-append one (moments_effects rest.moments) ws
    ∙ ap (accepted_after (moments_effects rest.moments)) (step_accepts_by_sends b n done ws len a)
    ∙ ih
    ∙ append_assoc ws (word_list done.accepted) (accepted_words rest.moments)

-- the words that a charge tells are those that its effects make the receiver accept
pub charge_accepts_by_sends : ChargeAcceptsBySends
charge_accepts_by_sends m amount b r ws len h = charge_accepts m amount b r ws len h
