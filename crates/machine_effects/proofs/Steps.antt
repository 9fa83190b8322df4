-- Each step of a board is a step of the machine that it is, and each step of that is one of the board, but for its bus faults.
use Rattle.std.proofs.Common.{◌≡◌, ◌==◌, if◌then◌else◌, cond, ◌≤◌, ◌<◌, ◌-◌, ◌%◌, arith, ℕ, zero, suc, refl, sym, ◌∙◌, ap, ap₂, subst, Bool, true}
use Rattle.std.proofs.Common.{◌⊎◌, inl, inr}
use Rattle.std.proofs.Common.{false, List, [], ◌∷◌, ◌++◌, length, drop, take, slice_index, slice_range, append-nil, Option, Some, None, Result, Ok, Err}
use mathlib.Core.Path.{fun_ext}
use Rattle.std.specs.Option.{option_map}
use Rattle.std.proofs.lemmas.Bool.Decides.{nat_tests}
use Rattle.std.proofs.lemmas.List.{append_cancel_right}
use Rattle.std.proofs.lemmas.List.Folds.{drop_split}
use Rattle.std.proofs.lemmas.Bool.{and_parts}
use Rattle.fram_board.specs.alp_words.declared.Width.{Width}
use Rattle.fram_board.specs.alp_words.declared.Width.TheVariants.{Word, Byte}
use Rattle.fram_board.specs.msp_isa.declared.operands.Src.{Src}
use Rattle.fram_board.specs.msp_isa.declared.operands.Src.TheVariants as src
use Rattle.fram_board.specs.msp_isa.declared.instructions.OneOp.TheVariants as one
use Rattle.fram_board.specs.msp_isa.declared.instructions.Instr.{Instr}
use Rattle.fram_board.specs.msp_isa.declared.instructions.Instr.TheVariants as instr
use Rattle.fram_board.specs.msp_isa.Encoding.{encoding}
use Rattle.fram_board.specs.msp_cycles.Cycles.{cycles_of}
use Rattle.fram_board.specs.msp_step.declared.bus.Refused.{Refused}
use Rattle.fram_board.specs.msp_step.declared.machine.Stop.{Stop}
use Rattle.fram_board.specs.msp_step.declared.machine.Stop.TheVariants as stop
use Rattle.fram_board.specs.msp_step.Registers.{Registers, with_register, kept, registers_of}
use Rattle.fram_board.specs.msp_step.Access.{BusModel, Access, Completed, Faulted}
use Rattle.fram_board.specs.msp_step.Effect.{Written, word_sum}
use Rattle.fram_board.specs.msp_step.Step.{FetchedAt, NotFetched, First, Second, Third, IsStopped, IsCurrentInstruction, effect, stop_of, Outcome, outcome_of}
use Rattle.fram_board.specs.msp_step.Step.{StepResult}
use Rattle.fram_board.specs.msp_step.Step.{Stopped, Executed}
use Rattle.fram_board.specs.msp_step.Laws.{AfterWrite}
use Rattle.fram_board.proofs.msp_step.Interface.{Ends, effect_ends, same_current, same_stop, not_stopped}
use Rattle.step_laws.specs.Alike.{AlikeUnless}
use Rattle.step_laws.proofs.Interface.{effect_alike}
use Rattle.fram_board.specs.image_text.ImageValue.{place_of}
use Rattle.fram_board.specs.Bus.{BusState, board_bus, is_ram, is_fram, is_memory, is_word, written, port_written, with_word, with_byte, memory_word}
use Rattle.fram_board.specs.Bus.{number_port, data_port, answer_port, data_written, answer_written}
use Rattle.fram_board.specs.declared.radio.Radio.{Radio}
use Rattle.fram_board.specs.declared.radio.Radio.TheVariants.{Alone, Sends, Listens}
use Rattle.fram_board.specs.Radio.{is_sender}
use Rattle.fram_board.specs.Board.{BoardValue, BoardOutcome, IsStep, opened, closed, board_outcome, executed, register_list, IsNextInstruction}
use Rattle.fram_board.specs.Effects.{Effect, Store, store_at, sends_of, effects_of}
use Rattle.fram_board.specs.declared.board.Stepped.{Stepped}
use Rattle.fram_board.proofs.Interface.{only_takes, execution_takes}
use Rattle.machine_effects.specs.Going.{Goes, Stops, step_behind}
use Rattle.machine_effects.specs.Inputs.{Look, look_effects}
use Rattle.machine_effects.specs.Machine.{MachineBus, MachineBoard, MachineOutcome, machine_bus, machine_opened_seeing, machine_opened, machine_closed}
use Rattle.machine_effects.specs.Machine.{looks_there, executed_looking}
use Rattle.machine_effects.specs.Machine.{machine_outcome, machine_executed_seeing, machine_executed, IsStepBy, IsMachineStep, NoInstruction, Executes}
use Rattle.machine_effects.specs.Machine.{word_address, fram_of}
use Rattle.machine_effects.specs.View.{machine_with, outcome_of_answer, machine_outcome_with}
use Rattle.machine_effects.specs.View.{machine_of, IsWhole, IsNextPrice, machine_outcome_of, IsFault, IsBusFault}
use Rattle.machine_effects.specs.Laws.{BoardStepsAsMachine, MachineStepsAsBoard, LooksAsTheBoard, MachineStepsInOneWay, StepsAsMachine, StepsToFault}
use Rattle.machine_effects.proofs.Alike.{IsRefused, SeesFram, SameBus, buses_alike, fetches_same, fram_at}
use Rattle.machine_effects.proofs.Along.{IsClosed, SourceHas, InstructionHas, Gives, effect_gives}
use Rattle.machine_effects.proofs.Logs.{Took, takes, LoggedBy, effect_logged, offered_by, written_effects, number_no_fram}

-- two buses that fetch alike have the same instruction, or none, at an address
module _ {S T : Type 0} (b : BusModel S) (c : BusModel T) (s : S) (t : T) (same : (a : ℕ) → b.fetches s a ≡ c.fetches t a) where
  fetched_alike : (ws : List ℕ) (a : ℕ) → FetchedAt b s a ws → FetchedAt c t a ws
  fetched_alike [] a h = tt
  fetched_alike (w ∷ ws) a h = (sym (same a) ∙ h.0, fetched_alike ws (word_sum a 2) h.1)

  missing_alike : (pc a : ℕ) → NotFetched b s pc a → NotFetched c t pc a
  missing_alike pc a (First none) = First (sym (same pc) ∙ none)
  missing_alike pc a (Second w was longer none) = Second w (sym (same pc) ∙ was) longer (sym (same (word_sum pc 2)) ∙ none)
  missing_alike pc a (Third w v was longer there none) =
      Third w v (sym (same pc) ∙ was) longer (sym (same (word_sum pc 2)) ∙ there) (sym (same (word_sum (word_sum pc 2) 2)) ∙ none)

  stopped_alike : (r : Registers) (e : Stop) → IsStopped b r s e → IsStopped c r t e
  stopped_alike r stop.Off h = h
  stopped_alike r (stop.Illegal at w) h = (h.0, (h.1.0, sym (same (r 0)) ∙ h.1.1, h.1.2))
  stopped_alike r (stop.Bus at a) h = (h.0, (h.1.0, missing_alike (r 0) a h.1.1))
  stopped_alike r stop.NoReading h = h

  current_alike : (r : Registers) (i : Instr) → IsCurrentInstruction b r s i → IsCurrentInstruction c r t i
  current_alike r i h = record { on = h.on; is = h.is; fetched = fetched_alike (encoding i) (r 0) h.fetched }

-- the board's bus and the machine's as an instruction begins that sees this of the ring
begins_seeing : (ring : Option Look) (looks : List Look) (b : BoardValue) → SeesFram ring b.fram → IsWhole b
    → SameBus b.readings looks b.line (opened b) (machine_opened_seeing ring (machine_with looks b))
begins_seeing ring looks b sees h =
    let g = h.board in
    record {
      whole = record { fram = g.fram; ram = g.ram; taken = g.taken; few = g.few };
      fram = refl;
      ram = refl;
      left = refl;
      outnum = refl;
      all = refl;
      line = refl;
      seen = sees;
      own = h.own;
    }

-- both fetch the same
fetches : (looks : List Look) (b : BoardValue) → IsWhole b → (a : ℕ)
    → board_bus.fetches (opened b) a ≡ machine_bus.fetches (machine_opened (machine_with looks b)) a
fetches looks b h a = fetches_same b.readings looks b.line (opened b) (machine_opened (machine_with looks b)) a (begins_seeing None looks b tt h)

-- there are no registers behind the sixteen
abbrev IsFile : Registers → Type 0
IsFile r = (n : ℕ) → 16 ≤ n → r n ≡ 0

with_file : (r : Registers) (n v : ℕ) → n < 16 → IsFile r → IsFile (with_register r n v)
with_file r n v low h m high =
    let k = h m high in
    let e : (m == n) ≡ false = grind (arith, nat_tests) in
    ap (λ b. cond b (kept n v) (r m)) e ∙ k

file_closed : IsClosed board_bus (λ v. Unit {0}) IsFile (λ s. Unit {0})
file_closed = record {
  register = λ r n p. tt;
  with = λ r n v low w p. with_file r n v low p;
  read = λ s a w v q e. tt;
  after = λ s a w v q e. tt;
  write = λ s a w v t q h e. tt;
  narrow = λ w v h. tt;
  sum = λ a b. tt;
  constant = λ k. tt;
  status = λ sr f. tt;
  two = λ op w d s f g h. tt;
  rotate = λ w v f h. tt;
  shift = λ w v f h. tt;
  exchange = λ w v f h. tt;
  extend = λ w v f h. tt;
  nothing = tt;
}

-- no immediate is asked for anything
source_free : (x : Src) → SourceHas (λ v. Unit {0}) x
source_free (src.Operand p) = tt
source_free (src.Immediate n) = tt
source_free (src.Constant k) = tt

pub instruction_free : (i : Instr) → InstructionHas (λ v. Unit {0}) i
instruction_free (instr.Two op w x d) = source_free x
instruction_free (instr.One (one.Push w x)) = source_free x
instruction_free (instr.One (one.Call x)) = source_free x
instruction_free (instr.One (one.Rrc w p)) = tt
instruction_free (instr.One (one.Rra w p)) = tt
instruction_free (instr.One (one.Swpb p)) = tt
instruction_free (instr.One (one.Sxt p)) = tt
instruction_free (instr.Jump c o) = tt
instruction_free instr.Reti = tt

-- the list of sixteen has the words of such registers
listed : (r : Registers) → IsFile r → (n : ℕ) → r n ≡ slice_index (register_list r) n
listed r h zero = refl
listed r h (suc zero) = refl
listed r h (suc (suc zero)) = refl
listed r h (suc (suc (suc zero))) = refl
listed r h (suc (suc (suc (suc zero)))) = refl
listed r h (suc (suc (suc (suc (suc zero))))) = refl
listed r h (suc (suc (suc (suc (suc (suc zero)))))) = refl
listed r h (suc (suc (suc (suc (suc (suc (suc zero))))))) = refl
listed r h (suc (suc (suc (suc (suc (suc (suc (suc zero)))))))) = refl
listed r h (suc (suc (suc (suc (suc (suc (suc (suc (suc zero))))))))) = refl
listed r h (suc (suc (suc (suc (suc (suc (suc (suc (suc (suc zero)))))))))) = refl
listed r h (suc (suc (suc (suc (suc (suc (suc (suc (suc (suc (suc zero))))))))))) = refl
listed r h (suc (suc (suc (suc (suc (suc (suc (suc (suc (suc (suc (suc zero)))))))))))) = refl
listed r h (suc (suc (suc (suc (suc (suc (suc (suc (suc (suc (suc (suc (suc zero))))))))))))) = refl
listed r h (suc (suc (suc (suc (suc (suc (suc (suc (suc (suc (suc (suc (suc (suc zero)))))))))))))) = refl
listed r h (suc (suc (suc (suc (suc (suc (suc (suc (suc (suc (suc (suc (suc (suc (suc zero))))))))))))))) = refl
listed r h (suc (suc (suc (suc (suc (suc (suc (suc (suc (suc (suc (suc (suc (suc (suc (suc n)))))))))))))))) = h _ (omega arith)

beyond : (rs : List ℕ) (n : ℕ) → length rs ≤ n → slice_index rs n ≡ 0
beyond [] n h = refl
beyond (x ∷ rs) zero h = absurd (omega arith)
beyond (x ∷ rs) (suc n) h = beyond rs n (omega arith)

whole_file : (b : BoardValue) → IsWhole b → IsFile (registers_of b.cpu)
whole_file b h n high = let l = h.registers.long in beyond b.cpu n (omega arith)

-- the word that the board's write offers
abbrev offered_of : Option Written → Option ℕ
offered_of None = None
offered_of (Some w) = offered_by w.0 w.1

abbrev OffersIf : ℕ → ℕ → Option BusState → Type 0
OffersIf a v None = Unit {0}
OffersIf a v (Some t) = t.offered ≡ offered_by a v

memory_no_data : (a : ℕ) → is_memory a ≡ true → (a == data_port) ≡ false
memory_no_data a e = grind (arith, nat_tests)

offers_none : (a v : ℕ) (o : Option ℕ) → (a == data_port) ≡ false → o ≡ None → o ≡ offered_by a v
offers_none a v o e h = h ∙ ap (λ b. cond b (Some v) None) (sym e)

word_offers : (b : Bool) (s : BusState) (a v : ℕ) (r f : List ℕ) → (a == data_port) ≡ false → s.offered ≡ None
    → (if b then record s { ram = r } else record s { fram = f }).offered ≡ offered_by a v
word_offers true s a v r f e h = offers_none a v s.offered e h
word_offers false s a v r f e h = offers_none a v s.offered e h

data_offers : (x : Radio) (s : BusState) (a v : ℕ) → is_sender x ≡ false → (a == data_port) ≡ true → (data_written x s v).offered ≡ offered_by a v
data_offers Alone s a v own e = ap (λ b. cond b (Some v) None) (sym e)
data_offers (Sends greatest) s a v own e = absurd cc
data_offers (Listens number) s a v own e = ap (λ b. cond b (Some v) None) (sym e)

sent_offers : (b : Bool) (s : BusState) (a v : ℕ) → (a == data_port) ≡ false
    → OffersIf a v (if b then Some (record s { offered = None; sent = Some (v, 0) }) else None)
sent_offers true s a v e = offers_none a v None e refl
sent_offers false s a v e = tt

answer_offers : (x : Radio) (s : BusState) (a v : ℕ) → (a == data_port) ≡ false → OffersIf a v (answer_written x s a v)
answer_offers Alone s a v e = tt
answer_offers (Sends greatest) s a v e = tt
answer_offers (Listens number) s a v e = sent_offers (a == answer_port) s a v e

port_offers : (b c : Bool) (s : BusState) (a v : ℕ) → (a == number_port) ≡ b → (a == data_port) ≡ c → s.offered ≡ None → is_sender s.radio ≡ false
    → OffersIf a v (if b then Some (record s { outnum = v }) else if c then Some (data_written s.radio s v) else answer_written s.radio s a v)
port_offers true c s a v e g h own = offers_none a v s.offered (number_no_fram a e).1 h
port_offers false true s a v e g h own = data_offers s.radio s a v own g
port_offers false false s a v e g h own = answer_offers s.radio s a v g

offers_served : (b : Bool) (a v : ℕ) (x y : Option BusState) → (b ≡ true → OffersIf a v x) → OffersIf a v y → OffersIf a v (if b then x else y)
offers_served true a v x y g h = g refl
offers_served false a v x y g h = h

written_offers : (s : BusState) (a : ℕ) (w : Width) (v : ℕ) → s.offered ≡ None → is_sender s.radio ≡ false → OffersIf a v (written s a w v)
written_offers s a Word v h own =
    offers_served (is_word a) a v (Some (with_word s a v)) (port_written s a v) (λ e. word_offers (is_ram a) s a v _ _
    (memory_no_data a (and_parts (a % 2 == 0) (is_memory a) e).1) h) (port_offers (a == number_port) (a == data_port) s a v refl refl h own)
written_offers s a Byte v h own =
    offers_served (is_memory a) a v (Some (with_word s a (with_byte (memory_word s a) a v))) None
    (λ e. word_offers (is_ram a) s a v _ _ (memory_no_data a e) h) tt

write_offers : (s t : BusState) (w : Option Written) → s.offered ≡ None → is_sender s.radio ≡ false → AfterWrite board_bus w s t → t.offered ≡ offered_of w
write_offers s t None h own e = ap (λ x. x.offered) e ∙ h
write_offers s t (Some w) h own e =
    let P : Option BusState → Type 0 = λ x. OffersIf w.0 w.1 x in
    subst P e.1 (written_offers s w.0 e.0 w.1 h own)

-- what the board's bus offers after an access that began with nothing offered
abbrev OfferedBy : Access BusState (Registers × Option Written) → Type 0
OfferedBy (Completed x t) = t.offered ≡ offered_of x.1
OfferedBy (Faulted e a t) = t.offered ≡ None

ends_offered : (s : BusState) (m : Access BusState (Registers × Option Written)) → s.offered ≡ None → is_sender s.radio ≡ false → Ends board_bus 2 s m
    → OfferedBy m
ends_offered s (Completed x t) off own h =
    let g = only_takes 2 s h.0 h.1 in
    write_offers h.0 t x.1 (ap (λ y. y.offered) g.same ∙ off) (ap (λ y. is_sender y.radio) g.same ∙ own) h.2
ends_offered s (Faulted e a t) off own h = let g = only_takes 2 s t h in ap (λ y. y.offered) g.same ∙ off

-- the readings that both took
same_words : (all left words : List ℕ) (from to : ℕ) → from ≤ to → words ++ left ≡ drop from all → left ≡ drop to all → words ≡ slice_range all from to
same_words all left words from to le h e =
    append_cancel_right words (slice_range all from to) left (h ∙ drop_split all from to le ∙ ap (λ l. slice_range all from to ++ l) (sym e))

store_on : (b : Bool) (a : ℕ) (words : List ℕ) → is_fram a ≡ b
    → (if b then Store (word_address a) (fram_of words (word_address a)) ∷ [] else []) ≡
    (if b then Store (a - a % 2) (slice_index words (place_of a)) ∷ [] else [])
store_on true a words e = ap (λ v. Store (word_address a) v ∷ []) (fram_at words a e)
store_on false a words e = refl

-- both effects of the one write
same_written : (w : Option Written) (words : List ℕ) (number : ℕ)
    → written_effects w (fram_of words) number ≡ store_at (option_map (λ p. p.0) w) words ++ sends_of number (offered_of w)
same_written None words number = refl
same_written (Some w) words number = ap (λ l. l ++ sends_of number (offered_by w.0 w.1)) (store_on (is_fram w.0) w.0 words refl)

-- the same machine
same_machine : (looks : List Look) (r q : Registers) (t : MachineBus) (s : BusState) (b : BoardValue) → r ≡ q → IsFile r
    → SameBus b.readings looks b.line s t → machine_closed q t ≡ machine_with looks (closed b r s)
same_machine looks r q t s b e f h =
    let same : q ≡ registers_of (register_list r) = sym e ∙ fun_ext (λ n. listed r f n) in
    λ i. record { registers = same i; fram = h.fram i; ram = h.ram i; inputs = h.left i; outnum = h.outnum i }

nothing_behind : (es fs : List Effect) → fs ≡ [] → es ≡ es ++ fs
nothing_behind es fs e = sym (append-nil es) ∙ ap (λ l. es ++ l) (sym e)

-- the readings that are left on both
left_same : (looks : List Look) (b : BoardValue) (t : MachineBus) (s : BusState) → SameBus b.readings looks b.line s t
    → t.inputs.readings ≡ drop s.taken b.readings
left_same looks b t s h = ap (λ i. i.readings) h.left ∙ ap (λ l. drop s.taken l) h.all

-- of the two accesses of an instruction
module _ (b : BoardValue) (i : Instr) (ring : Option Look) (looks : List Look) where
  abbrev outcome : Access BusState (Registers × Option Written) → BoardOutcome
  outcome m = board_outcome b (outcome_of i (registers_of b.cpu) m)

  -- what the machine made of the instruction, of the board's outcome
  abbrev SameOutcome : BoardOutcome → MachineOutcome → Type 0
  SameOutcome x o = IsBusFault o ⊎ ((o ≡ machine_outcome_with [] looks b x (cycles_of i)) × (x.board.line ≡ b.line))

  refused_same : (e f : Refused) (a c : ℕ) (s : BusState) (t : MachineBus) → (e ≡ f) × (a ≡ c) × SameBus b.readings looks b.line s t → s.offered ≡ None
      → Took (machine_opened_seeing ring (machine_with looks b)) t → b.taken ≤ s.taken
      → machine_outcome (registers_of b.cpu 0) (cycles_of i) (Faulted f c t) ≡ machine_outcome_with [] looks b (outcome (Faulted e a s)) (cycles_of i)
  refused_same e f a c s t same off log le =
      let h = same.2 in
      let words = same_words b.readings t.inputs.readings log.words b.taken s.taken le log.left (left_same looks b t s h) in
      let none : sends_of b.outnum s.offered ≡ [] = ap (λ o. sends_of b.outnum o) off in
      let effects : t.log ≡ effects_of b (outcome (Faulted e a s)) =
      ap (λ x. x.log) log.same ∙ ap takes words ∙ nothing_behind (takes (slice_range b.readings b.taken s.taken)) (sends_of b.outnum s.offered) none in
      let same_stop_of : stop_of (registers_of b.cpu 0) f c ≡ stop_of (registers_of b.cpu 0) e a =
      ap₂ (λ r x. stop_of (registers_of b.cpu 0) r x) (sym same.0) (sym same.1) in
      ap₂ (λ es x. Stops es (cycles_of i) x) effects same_stop_of

  refused_stop : (pc a : ℕ) (f : Refused) → IsRefused f a → IsFault (stop_of pc f a)
  refused_stop pc a f at = subst (λ r. IsFault (stop_of pc r a)) (sym at) tt

  same_outcome : (m : Access BusState (Registers × Option Written)) (n : Access MachineBus (Registers × Option Written))
      → AlikeUnless IsRefused (SameBus b.readings looks b.line) m n → OfferedBy m → LoggedBy (machine_opened_seeing ring (machine_with looks b)) n
      → Gives (λ s. Unit {0}) (λ y. IsFile y.0) m → b.taken ≤ (outcome m).board.taken
      → SameOutcome (outcome m) (machine_outcome (registers_of b.cpu 0) (cycles_of i) n)
  same_outcome (Completed x s) (Completed y t) same off log file le =
      let h = same.1 in
      let words = same_words b.readings t.inputs.readings log.words b.taken s.taken le log.left (left_same looks b t s h) in
      let wrote : written_effects y.1 t.fram b.outnum ≡ store_at (option_map (λ p. p.0) x.1) s.fram ++ sends_of b.outnum s.offered =
      ap (λ f. written_effects y.1 f b.outnum) h.fram
      ∙ ap (λ z. written_effects z.1 (fram_of s.fram) b.outnum) (sym same.0)
      ∙ same_written x.1 s.fram b.outnum
      ∙ ap (λ o. store_at (option_map (λ p. p.0) x.1) s.fram ++ sends_of b.outnum o) (sym off) in
      let effects : t.log ≡ effects_of b (outcome (Completed x s)) = log.log ∙ ap₂ (λ k l. takes k ++ l) words wrote in
      let next = same_machine looks x.0 y.0 t s b (ap (λ z. z.0) same.0) file.0 h in
      inr (ap₂ (λ es u. Goes es (cycles_of i) u) effects next, h.line)
  same_outcome (Faulted e a s) (Faulted f c t) (inl at) off log file le = inl (refused_stop (registers_of b.cpu 0) c f at)
  same_outcome (Faulted e a s) (Faulted f c t) (inr same) off log file le = inr (refused_same e f a c s t same off log le, same.2.line)
  same_outcome (Completed x s) (Faulted f c t) at off log file le = inl (refused_stop (registers_of b.cpu 0) c f at)
  same_outcome (Faulted e a s) (Completed y t) same off log file le = elim same [ ]

  -- an instruction at PC does the same on both, where what it sees of the ring is the board's, and leaves the port EVENT, or the
  -- machine ends by a bus fault
  same_seeing : SeesFram ring b.fram → IsWhole b → SameOutcome (executed b i) (machine_executed_seeing ring (machine_with looks b) i)
  same_seeing sees h =
      let r = registers_of b.cpu in
      let t = machine_opened_seeing ring (machine_with looks b) in
      let m = effect board_bus i r (opened b) in
      same_outcome m (effect machine_bus i r t)
      (effect_alike BusState MachineBus board_bus machine_bus IsRefused (SameBus b.readings looks b.line) (buses_alike b.readings looks b.line) i r (opened b) t
      (begins_seeing ring looks b sees h))
      (ends_offered (opened b) m refl h.own (effect_ends board_bus i r (opened b)))
      (effect_logged i r t)
      (effect_gives board_bus (λ v. Unit {0}) IsFile (λ s. Unit {0}) file_closed i r (opened b) (instruction_free i) (whole_file b h) tt)
      (execution_takes i r (opened b)).from

-- the same behind effects
abbrev SameBehind : List Effect → List Look → BoardValue → Instr → MachineOutcome → Type 0
SameBehind es looks b i o =
    IsBusFault o ⊎ ((o ≡ machine_outcome_with es looks b (executed b i) (cycles_of i)) × ((executed b i).board.line ≡ b.line))

fault_behind : (es : List Effect) (o : MachineOutcome) → IsBusFault o → IsBusFault (step_behind es o)
fault_behind es (Goes fs c t) h = h
fault_behind es (Stops fs price e) h = h

answer_behind : (es fs : List Effect) (price : ℕ) (a : Result Stepped Stop) (next : MachineBoard)
    → step_behind es (outcome_of_answer fs price a next) ≡ outcome_of_answer (es ++ fs) price a next
answer_behind es fs price (Ok done) next = refl
answer_behind es fs price (Err e) next = refl

same_behind : (es : List Effect) (looks : List Look) (b : BoardValue) (i : Instr) (o : MachineOutcome) → SameBehind [] looks b i o
    → SameBehind es looks b i (step_behind es o)
same_behind es looks b i o (inl at) = inl (fault_behind es o at)
same_behind es looks b i o (inr h) =
    let x = executed b i in
    inr (ap (step_behind es) h.0 ∙ answer_behind es (effects_of b x) (cycles_of i) x.answer (machine_with looks x.board), h.1)

-- an instruction of code that sees the board's ring
looks_by : (c : Bool) (b : BoardValue) (i : Instr) (more : List Look) → IsWhole b
    → let looks = if c then fram_of b.fram ∷ [] else [] in let s = machine_with (looks ++ more) b in
    SameBehind (look_effects looks) more b i (if c then executed_looking s.inputs.looks s i else machine_executed s i)
looks_by true b i more h =
    let look = fram_of b.fram in
    same_behind (look_effects (look ∷ [])) more b i (machine_executed_seeing (Some look) (machine_with more b) i)
    (same_seeing b i (Some look) more (λ a r. refl) h)
looks_by false b i more h = same_seeing b i None more tt h

pub looks_as_the_board : LooksAsTheBoard
looks_as_the_board b i more h = looks_by (looks_there i) b i more h

-- and one that may not look there
executed_same : (b : BoardValue) (i : Instr) → IsWhole b → SameBehind [] [] b i (machine_executed (machine_of b) i)
executed_same b i h = same_seeing b i None [] tt h

-- a step that is stopped takes nothing
pub none_taken : (xs : List ℕ) (n : ℕ) → slice_range xs n n ≡ []
none_taken xs n = let e : n - n ≡ 0 = omega arith in ap (λ k. take k (drop n xs)) e

stopped_same : (b : BoardValue) (e : Stop)
    → ◌≡◌ {A = MachineOutcome} (Stops [] 0 e) (machine_outcome_of b (board_outcome b
    (record { answer = Err e; registers = registers_of b.cpu; bus = opened b })) 0)
stopped_same b e = ap (λ ws. Stops (takes ws ++ []) 0 e) (sym (none_taken b.readings b.taken))

-- the next instruction of a board stands on the machine too
pub current_on : (looks : List Look) (b : BoardValue) → IsWhole b → (i : Instr) → IsNextInstruction b i
    → IsCurrentInstruction machine_bus (registers_of b.cpu) (machine_opened (machine_with looks b)) i
current_on looks b h i g =
    current_alike board_bus machine_bus (opened b) (machine_opened (machine_with looks b)) (fetches looks b h) (registers_of b.cpu) i g

-- the next instruction of a board, and its stop with none, are the machine's
module _ (run : MachineBoard → Instr → MachineOutcome) (looks : List Look) (b : BoardValue) (h : IsWhole b) where
  pub stopped_to_machine : (e : Stop) → IsStopped board_bus (registers_of b.cpu) (opened b) e → IsStepBy run (machine_with looks b) (Stops [] 0 e)
  stopped_to_machine e g =
      NoInstruction e (stopped_alike board_bus machine_bus (opened b) (machine_opened (machine_with looks b)) (fetches looks b h) (registers_of b.cpu) e g)

  pub current_to_machine : (i : Instr) → IsNextInstruction b i → IsStepBy run (machine_with looks b) (run (machine_with looks b) i)
  current_to_machine i g = Executes i (current_on looks b h i g)

abbrev AsMachine : BoardValue → BoardOutcome → Type 0
AsMachine b x = StepsAsMachine b x ⊎ StepsToFault b

executed_as_machine : (b : BoardValue) (i : Instr) → IsWhole b → IsNextInstruction b i → SameBehind [] [] b i (machine_executed (machine_of b) i)
    → AsMachine b (executed b i)
executed_as_machine b i h g (inl at) = inr (machine_executed (machine_of b) i, current_to_machine machine_executed [] b h i g, at)
executed_as_machine b i h g (inr same) = inl (record {
  price = cycles_of i;
  next = inl (i, g, refl);
  step = subst (λ x. IsMachineStep (machine_of b) x) same.0 (current_to_machine machine_executed [] b h i g);
  line = same.1;
})

step_as_machine : (b : BoardValue) (o : Outcome BusState) → IsWhole b → StepResult board_bus (registers_of b.cpu) (opened b) o → AsMachine b (board_outcome b o)
step_as_machine b o h (Stopped e g) = inl (record {
  price = 0;
  next = inr (e, g, refl);
  step = subst (λ x. IsMachineStep (machine_of b) x) (stopped_same b e) (stopped_to_machine machine_executed [] b h e g);
  line = refl;
})
step_as_machine b o h (Executed i g) = executed_as_machine b i h g (executed_same b i h)

pub board_steps_as_machine : BoardStepsAsMachine
board_steps_as_machine b x h is = subst (λ y. AsMachine b y) (sym is.2) (step_as_machine b is.0 h is.1)

-- what MachineStepsAsBoard says of one outcome
abbrev AsBoard : BoardValue → MachineOutcome → Type 0
AsBoard b o = IsBusFault o
    ⊎ ((x : BoardOutcome) × (price : ℕ) × IsStep b x × IsNextPrice b price × (o ≡ machine_outcome_of b x price) × (x.board.line ≡ b.line))

back_to_board : (b : BoardValue) (i : Instr) → IsNextInstruction b i → SameBehind [] [] b i (machine_executed (machine_of b) i)
    → AsBoard b (machine_executed (machine_of b) i)
back_to_board b i g (inl at) = inl at
back_to_board b i g (inr same) = inr (executed b i, cycles_of i, (_, Executed i g, refl), inl (i, g, refl), same.0, same.1)

pub machine_steps_as_board : MachineStepsAsBoard
machine_steps_as_board b o h (NoInstruction e k) =
    let g = stopped_alike machine_bus board_bus (machine_opened (machine_of b)) (opened b) (λ a. sym (fetches [] b h a)) (registers_of b.cpu) e k in
    let x = board_outcome b (record { answer = Err e; registers = registers_of b.cpu; bus = opened b }) in
    inr (x, 0, (_, Stopped e g, refl), inr (e, g, refl), stopped_same b e, refl)
machine_steps_as_board b o h (Executes i k) =
    let g = current_alike machine_bus board_bus (machine_opened (machine_of b)) (opened b) (λ a. sym (fetches [] b h a)) (registers_of b.cpu) i k in
    back_to_board b i g (executed_same b i h)

-- the machine steps in one way
pub machine_steps_in_one_way : MachineStepsInOneWay
machine_steps_in_one_way s o p (NoInstruction e h) (NoInstruction f k) = ap (λ x. Stops [] 0 x) (same_stop machine_bus s.registers (machine_opened s) e f h k)
machine_steps_in_one_way s o p (NoInstruction e h) (Executes i c) = absurd (not_stopped machine_bus s.registers (machine_opened s) e i h c)
machine_steps_in_one_way s o p (Executes i c) (NoInstruction e h) = absurd (not_stopped machine_bus s.registers (machine_opened s) e i h c)
machine_steps_in_one_way s o p (Executes i c) (Executes j d) = ap (λ x. machine_executed s x) (same_current machine_bus s.registers (machine_opened s) i j c d)
