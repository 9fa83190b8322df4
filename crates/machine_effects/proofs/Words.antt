-- Words stay words, on the machine and on the board.
use Rattle.std.proofs.Common.{◌≡◌, ◌==◌, ◌&&◌, ◌≤◌, ◌<◌, ◌+◌, ◌-◌, ◌*◌, ◌/◌, ◌%◌, arith, ℕ, zero, suc, refl, sym, ◌∙◌, subst, not, eqb-true, length-set}
use Rattle.std.proofs.Common.{Bool, true, false, if◌then◌else◌, nat_le, nat_lt, List, [], ◌∷◌}
use Rattle.std.proofs.Common.{◌++◌, All, length, drop, slice_index, slice_set, inl, inr, ◌⊎◌, Option, Some, None, Result, Ok, Err}
use Rattle.std.specs.Prelude.{IfSome, unwrap_or}
use Rattle.std.proofs.lemmas.Option.{same_Some}
use Rattle.std.proofs.lemmas.Bool.{cases_lt}
use Rattle.std.proofs.lemmas.Bool.Decides.{nat_tests}
use Rattle.std.proofs.lemmas.List.{length-replicate}
use Rattle.std.proofs.lemmas.List.Elements.{All-set, All-replicate}
use Rattle.fram_board.specs.alp_words.Words.{IsWord}
use Rattle.fram_board.specs.alp_words.declared.Width.{Width}
use Rattle.fram_board.specs.alp_words.declared.Width.TheVariants.{Word, Byte}
use Rattle.fram_board.specs.msp_isa.declared.operands.Src.TheVariants as src
use Rattle.fram_board.specs.msp_isa.declared.instructions.OneOp.TheVariants as one
use Rattle.fram_board.specs.msp_isa.declared.instructions.Instr.{Instr}
use Rattle.fram_board.specs.msp_isa.declared.instructions.Instr.TheVariants as instr
use Rattle.fram_board.specs.msp_isa.Encoding.{encoding}
use Rattle.fram_board.specs.msp_cycles.Cycles.{cycles_of}
use Rattle.fram_board.specs.msp_step.declared.bus.Refused.{Refused}
use Rattle.fram_board.specs.msp_step.declared.bus.Refused.TheVariants as refused
use Rattle.fram_board.specs.msp_step.declared.machine.Stop.{Stop}
use Rattle.fram_board.specs.msp_step.declared.machine.Stop.TheVariants as stop
use Rattle.fram_board.specs.msp_step.Registers.{Registers, registers_of, with_register, kept, powered_up}
use Rattle.fram_board.specs.msp_step.Access.{BusModel, Access, Completed, Faulted}
use Rattle.fram_board.specs.msp_step.Effect.{Written}
use Rattle.fram_board.specs.msp_step.Step.{FetchedAt, effect, outcome_of, Outcome, StepResult, Stopped, Executed, off_bit, is_interruptible}
use Rattle.fram_board.specs.msp_step.Step.{return_place, status_place, interrupted}
use Rattle.step_laws.specs.Effects.{IsValid}
use Rattle.step_laws.specs.Effects as laws
use Rattle.step_laws.proofs.Interface.{stays_valid}
use Rattle.fram_board.specs.address_space.Limits.{event_vector}
use Rattle.event_places.specs.Places.{handler_place, is_ring}
use Rattle.fram_board.specs.image_text.ImageValue.{place_of}
use Rattle.fram_board.specs.Bus.{BusState, IsBusState, board_bus, is_ram, is_fram, is_memory, is_word, ram_place, memory_word, with_word, with_byte, byte_of}
use Rattle.fram_board.specs.Bus.{next_reading, read_of, after_read, written, port_written, data_written, answer_written, sensor_port, number_port, data_port}
use Rattle.fram_board.specs.Bus.{event_port, acknowledgements_port, packet_number_port, answer_port}
use Rattle.fram_board.specs.declared.radio.Radio.{Radio}
use Rattle.fram_board.specs.declared.radio.Radio.TheVariants.{Alone, Sends, Listens}
use Rattle.fram_board.specs.Events.{EventLine, is_full, port_word, port_read}
use Rattle.fram_board.specs.Radio.{is_sender, radio_word, radio_powered}
use Rattle.fram_board.specs.declared.board.NextStep.{NextStep}
use Rattle.fram_board.specs.declared.board.NextStep.TheVariants as next_step
use Rattle.fram_board.specs.Board.{executed, performed, at_boundary, IsNextStep}
use Rattle.fram_board.specs.Board.{BoardValue, opened, closed, board_outcome, register_list, filled_words, vector_of, acceptance_refused, acceptance_made}
use Rattle.fram_board.specs.Effects.{Effect, Store}
use Rattle.fram_board.specs.Run.{Measure, price, RunOutcome, ChargeRun}
use Rattle.fram_board.specs.Run as run
use Rattle.fram_board.proofs.Interface.{power_up_leaves_a_board}
use Rattle.machine_effects.specs.World.{put}
use Rattle.machine_effects.specs.Inputs.{Look, Inputs, InputsAreWords, first_look, other_looks, look_effects}
use Rattle.machine_effects.specs.Going.{Goes, Stops, step_behind}
use Rattle.machine_effects.specs.Machine.{MachineBus, MachineBoard, MachineOutcome, machine_bus, machine_word, word_address, first_reading, machine_read}
use Rattle.machine_effects.specs.Machine.{is_readable, ring_read, word_read, word_written, looks_there, machine_opened_seeing, machine_executed_seeing}
use Rattle.machine_effects.specs.Machine.{executed_looking, code_executed}
use Rattle.machine_effects.specs.Machine.{reading_taken, machine_after_read, machine_stored, machine_port_written, machine_written, machine_opened}
use Rattle.machine_effects.specs.Machine.{machine_outcome, machine_executed, NoInstruction, Executes, standing, step_with, astray, is_exposed, undisturbed}
use Rattle.machine_effects.specs.Machine.{forgotten, uncovered_from, uncovering}
use Rattle.machine_effects.specs.View.{IsWhole, IsLineOfWords, IsRadioOfWords, IsOfWords, IsMachineOfWords}
use Rattle.machine_effects.specs.Laws.{LeavesWords, MachineWordsStayWords, CodeWordsStayWords, WordsStayWords, StepLeavesItWhole, MachineIsOfWords}
use Rattle.machine_effects.specs.Laws.{PowerUpKeepsWords, FreshIsWhole, AcceptanceKeepsWords, ChargeKeepsWords}
use Rattle.machine_effects.proofs.Along.{IsClosed, InstructionHas, Gives, effect_gives}
use Rattle.machine_effects.proofs.Lines.{line_powered, boundary_keeps_words}
use Rattle.machine_effects.proofs.Executed.{executed_is_step}
use Rattle.machine_effects.proofs.Steps.{instruction_free}
use Rattle.machine_effects.proofs.Values.{AreSmall, narrow_small, sum_small, constant_small, status_small, two_small, rotate_small, shift_small}
use Rattle.machine_effects.proofs.Values.{exchange_small, extend_small, byte_small, bytes_small, kept_small, with_small}

-- what is seen of the ring are words
abbrev SeesWords : Option Look → Type 0
SeesWords None = Unit {0}
SeesWords (Some look) = (a : ℕ) → IsWord (look a)

-- what is known of a word of RAM is a word
abbrev IsKnownWord : Option ℕ → Type 0
IsKnownWord o = (w : ℕ) → o ≡ Some w → IsWord w

-- what the machine's bus holds are words
record OfWords (t : MachineBus) : Type 0 where
  pub fram : (a : ℕ) → IsWord (t.fram a)
  pub ram : (a : ℕ) → IsKnownWord (t.ram a)
  pub inputs : InputsAreWords t.inputs
  pub outnum : IsWord t.outnum
  pub ring : SeesWords t.ring

either_small : (b : Bool) (x y : ℕ) → IsWord x → IsWord y → IsWord (if b then x else y)
either_small true x y h k = h
either_small false x y h k = k

put_small : (f : ℕ → ℕ) (a v : ℕ) → IsWord v → ((x : ℕ) → IsWord (f x)) → (x : ℕ) → IsWord (put f a v x)
put_small f a v h k x = either_small (x == a) v (f x) h (k x)

either_known : (b : Bool) (x y : Option ℕ) → IsKnownWord x → IsKnownWord y → IsKnownWord (if b then x else y)
either_known true x y h k = h
either_known false x y h k = k

some_known : (v : ℕ) → IsWord v → IsKnownWord (Some v)
some_known v h w e = subst IsWord (same_Some v w e) h

none_known : IsKnownWord None
none_known w e = absurd cc

put_known : (f : ℕ → Option ℕ) (a v : ℕ) → IsWord v → ((x : ℕ) → IsKnownWord (f x)) → (x : ℕ) → IsKnownWord (put f a (Some v) x)
put_known f a v h k x = either_known (x == a) (Some v) (f x) (some_known v h) (k x)

unwrapped_small : (o : Option ℕ) → IsKnownWord o → IsWord (unwrap_or o 0)
unwrapped_small None h = omega arith
unwrapped_small (Some w) h = h w refl

all_tail : (w : ℕ) (ws : List ℕ) → All (λ x. x < 0x10000) (w ∷ ws) → All (λ x. x < 0x10000) ws
all_tail w ws h k d low = h (suc k) d (omega arith)

all_head : (w : ℕ) (ws : List ℕ) → All (λ x. x < 0x10000) (w ∷ ws) → IsWord w
all_head w ws h = h zero 0 (omega arith)

word_small : (t : MachineBus) (a : ℕ) → OfWords t → IsWord (machine_word t a)
word_small t a q =
    let x = word_address a in either_small (is_ram a) (unwrap_or (t.ram x) 0) (t.fram x) (unwrapped_small (t.ram x) (q.ram x)) (q.fram x)

reading_small : (ws : List ℕ) (v : ℕ) → All (λ x. x < 0x10000) ws → first_reading ws ≡ Ok v → IsWord v
reading_small [] v h e = absurd cc
reading_small (w ∷ ws) v h e = let same : w ≡ v = cc in subst IsWord same (all_head w ws h)

-- what a test leads to
ok_on : (b : Bool) (x v : ℕ) (o : Result ℕ Refused) → IsWord x → (o ≡ Ok v → IsWord v) → (if b then Ok x else o) ≡ Ok v → IsWord v
ok_on true x v o h k e = let same : x ≡ v = cc in subst IsWord same h
ok_on false x v o h k e = k e

sensed_on : (b : Bool) (v : ℕ) (o : Result ℕ Refused) → (o ≡ Ok v → IsWord v) → (if b then o else Err refused.Bus) ≡ Ok v → IsWord v
sensed_on true v o k e = k e
sensed_on false v o k e = absurd cc

no_word : (v : ℕ) → ◌≡◌ {A = Result ℕ Refused} (Err refused.Bus) (Ok v) → IsWord v
no_word v e = absurd cc

ring_on : (b : Bool) (x v : ℕ) → IsWord x → ◌≡◌ {A = Result ℕ Refused} (if b then Ok x else Err refused.Bus) (Ok v) → IsWord v
ring_on true x v h e = let same : x ≡ v = cc in subst IsWord same h
ring_on false x v h e = absurd cc

ring_small : (o : Option Look) (a v : ℕ) → SeesWords o → ring_read o a ≡ Ok v → IsWord v
ring_small None a v h e = absurd cc
ring_small (Some look) a v h e = ring_on (is_ring a) (look a) v (h a) e

read_on : (b : Bool) (v : ℕ) (m o : Result ℕ Refused) → (m ≡ Ok v → IsWord v) → (o ≡ Ok v → IsWord v) → (if b then m else o) ≡ Ok v → IsWord v
read_on true v m o h k e = h e
read_on false v m o h k e = k e

word_read_small : (t : MachineBus) (a v : ℕ) → OfWords t → word_read t a ≡ Ok v → IsWord v
word_read_small t a v q e =
    ok_on (is_readable t a) (machine_word t a) v (ring_read t.ring a) (word_small t a q) (λ g. ring_small t.ring a v q.ring g) e

machine_read_small : (t : MachineBus) (a : ℕ) (w : Width) (v : ℕ) → OfWords t → machine_read t a w ≡ Ok v → IsWord v
machine_read_small t a Word v q e =
    read_on (is_word a) v (word_read t a) _ (λ g. word_read_small t a v q g) (λ g. sensed_on (a == sensor_port) v (first_reading t.inputs.readings)
    (λ r. reading_small t.inputs.readings v q.inputs.readings r) g) e
machine_read_small t a Byte v q e =
    ok_on (is_memory a && is_readable t a) (byte_of (machine_word t a) a) v _ (byte_small (machine_word t a) a (word_small t a q)) (λ g. no_word v g) e

taken_words : (ws : List ℕ) (t : MachineBus) → All (λ x. x < 0x10000) ws → OfWords t → OfWords (reading_taken ws t)
taken_words [] t h q = q
taken_words (w ∷ ws) t h q =
    record { fram = q.fram; ram = q.ram; inputs = record { readings = all_tail w ws h; looks = q.inputs.looks }; outnum = q.outnum; ring = q.ring }

after_words : (b : Bool) (t : MachineBus) → OfWords t → OfWords (if b then reading_taken t.inputs.readings t else t)
after_words true t q = taken_words t.inputs.readings t q.inputs.readings q
after_words false t q = q

machine_after_words : (t : MachineBus) (a : ℕ) (w : Width) → OfWords t → OfWords (machine_after_read t a w)
machine_after_words t a Word q = after_words (a == sensor_port) t q
machine_after_words t a Byte q = q

stored_words : (b : Bool) (t : MachineBus) (log : List Effect) (a v : ℕ) → IsWord v → OfWords t
    → OfWords (if b then record t { ram = put t.ram a (Some v) } else record t { fram = put t.fram a v; log = log })
stored_words true t log a v h q =
    record { fram = q.fram; ram = put_known t.ram a v h q.ram; inputs = q.inputs; outnum = q.outnum; ring = q.ring }
stored_words false t log a v h q =
    record { fram = put_small t.fram a v h q.fram; ram = q.ram; inputs = q.inputs; outnum = q.outnum; ring = q.ring }

abbrev WordsIf : Option MachineBus → Type 0
WordsIf None = Unit {0}
WordsIf (Some t) = OfWords t

if_some : (b : Bool) (x y : Option MachineBus) → WordsIf x → WordsIf y → WordsIf (if b then x else y)
if_some true x y h k = h
if_some false x y h k = k

port_words : (t : MachineBus) (a v : ℕ) → IsWord v → OfWords t → WordsIf (machine_port_written t a v)
port_words t a v h q =
    if_some (a == number_port) (Some (record t { outnum = v })) _
    (record { fram = q.fram; ram = q.ram; inputs = q.inputs; outnum = h; ring = q.ring })
    (if_some (a == data_port) (Some _) None (record { fram = q.fram; ram = q.ram; inputs = q.inputs; outnum = q.outnum; ring = q.ring }) tt)

written_words : (t : MachineBus) (a : ℕ) (w : Width) (v : ℕ) → IsWord v → OfWords t → WordsIf (machine_written t a w v)
written_words t a Word v h q =
    if_some (is_word a) (word_written t a v) (machine_port_written t a v)
    (if_some (nat_lt a handler_place) (Some (machine_stored t a v)) None
    (stored_words (is_ram a) t (t.log ++ Store (word_address a) v ∷ []) (word_address a) v h q) tt) (port_words t a v h q)
written_words t a Byte v h q =
    let x = with_byte (machine_word t a) a v in
    if_some (is_memory a && is_readable t a) (Some (machine_stored t a x)) None
    (stored_words (is_ram a) t (t.log ++ Store (word_address a) x ∷ []) (word_address a) x
    (bytes_small (machine_word t a) a v (word_small t a q)) q) tt

machine_write_words : (t : MachineBus) (a : ℕ) (w : Width) (v : ℕ) (u : MachineBus) → OfWords t → IsWord v → machine_written t a w v ≡ Some u → OfWords u
machine_write_words t a w v u q h e = subst (λ x. WordsIf x) e (written_words t a w v h q)

machine_closed_words : IsClosed machine_bus IsWord AreSmall OfWords
machine_closed_words = record {
  register = λ r n p. p n;
  with = λ r n v low w p. with_small r n v low w p;
  read = λ s a w v q e. machine_read_small s a w v q e;
  after = λ s a w v q e. machine_after_words s a w q;
  write = λ s a w v t q h e. machine_write_words s a w v t q h e;
  narrow = λ w v h. narrow_small w v h;
  sum = λ a b. sum_small a b;
  constant = λ k. constant_small k;
  status = λ sr f. status_small sr f;
  two = λ op w d s f g h. two_small op w d s f g h;
  rotate = λ w v f h. rotate_small w v f h;
  shift = λ w v f h. shift_small w v f h;
  exchange = λ w v f h. exchange_small w v f h;
  extend = λ w v f h. extend_small w v f h;
  nothing = omega arith;
}

-- the immediate of an instruction whose words are fetched
module _ {S : Type 0} (bus : BusModel S) (s : S) (fetches : (a v : ℕ) → bus.fetches s a ≡ Some v → IsWord v) where
  immediate_fetched : (i : Instr) (pc : ℕ) → FetchedAt bus s pc (encoding i) → InstructionHas IsWord i
  immediate_fetched (instr.Two op w (src.Immediate n) d) pc h = fetches _ n h.1.0
  immediate_fetched (instr.Two op w (src.Operand p) d) pc h = tt
  immediate_fetched (instr.Two op w (src.Constant k) d) pc h = tt
  immediate_fetched (instr.One (one.Push w (src.Immediate n))) pc h = fetches _ n h.1.0
  immediate_fetched (instr.One (one.Push w (src.Operand p))) pc h = tt
  immediate_fetched (instr.One (one.Push w (src.Constant k))) pc h = tt
  immediate_fetched (instr.One (one.Call (src.Immediate n))) pc h = fetches _ n h.1.0
  immediate_fetched (instr.One (one.Call (src.Operand p))) pc h = tt
  immediate_fetched (instr.One (one.Call (src.Constant k))) pc h = tt
  immediate_fetched (instr.One (one.Rrc w p)) pc h = tt
  immediate_fetched (instr.One (one.Rra w p)) pc h = tt
  immediate_fetched (instr.One (one.Swpb p)) pc h = tt
  immediate_fetched (instr.One (one.Sxt p)) pc h = tt
  immediate_fetched (instr.Jump c o) pc h = tt
  immediate_fetched instr.Reti pc h = tt

-- the same of an instruction that is encoded in words
immediate_encoded : (i : Instr) → All (λ w. w < 0x10000) (encoding i) → InstructionHas IsWord i
immediate_encoded (instr.Two op w (src.Immediate n) d) h = h 1 0 (omega arith)
immediate_encoded (instr.Two op w (src.Operand p) d) h = tt
immediate_encoded (instr.Two op w (src.Constant k) d) h = tt
immediate_encoded (instr.One (one.Push w (src.Immediate n))) h = h 1 0 (omega arith)
immediate_encoded (instr.One (one.Push w (src.Operand p))) h = tt
immediate_encoded (instr.One (one.Push w (src.Constant k))) h = tt
immediate_encoded (instr.One (one.Call (src.Immediate n))) h = h 1 0 (omega arith)
immediate_encoded (instr.One (one.Call (src.Operand p))) h = tt
immediate_encoded (instr.One (one.Call (src.Constant k))) h = tt
immediate_encoded (instr.One (one.Rrc w p)) h = tt
immediate_encoded (instr.One (one.Rra w p)) h = tt
immediate_encoded (instr.One (one.Swpb p)) h = tt
immediate_encoded (instr.One (one.Sxt p)) h = tt
immediate_encoded (instr.Jump c o) h = tt
immediate_encoded instr.Reti h = tt

some_on : (b : Bool) (x v : ℕ) → IsWord x → ◌≡◌ {A = Option ℕ} (if b then Some x else None) (Some v) → IsWord v
some_on true x v h e = let same : x ≡ v = cc in subst IsWord same h
some_on false x v h e = absurd cc

outcome_words : (pc c : ℕ) (m : Access MachineBus (Registers × Option Written)) → Gives OfWords (λ y. AreSmall y.0) m → LeavesWords (machine_outcome pc c m)
outcome_words pc c (Completed x t) h = let q = h.1 in record { registers = h.0; fram = q.fram; ram = q.ram; inputs = q.inputs; outnum = q.outnum }
outcome_words pc c (Faulted e a t) h = tt

opened_words : (ring : Option Look) (s : MachineBoard) → SeesWords ring → IsMachineOfWords s → OfWords (machine_opened_seeing ring s)
opened_words ring s w h = record { fram = h.fram; ram = h.ram; inputs = h.inputs; outnum = h.outnum; ring = w }

executed_words : (ring : Option Look) (s : MachineBoard) (i : Instr) → SeesWords ring → IsMachineOfWords s → InstructionHas IsWord i
    → LeavesWords (machine_executed_seeing ring s i)
executed_words ring s i w h k =
    let t = machine_opened_seeing ring s in
    outcome_words (s.registers 0) (cycles_of i) (effect machine_bus i s.registers t)
    (effect_gives machine_bus IsWord AreSmall OfWords machine_closed_words i s.registers t k h.registers (opened_words ring s w h))

-- the first of looks at words sees words, and so do the others
pub first_small : (looks : List Look) → All (λ look. (a : ℕ) → look a < 0x10000) looks → (a : ℕ) → first_look looks a < 0x10000
first_small [] w a = omega arith
first_small (look ∷ more) w a = w zero look (omega arith) a

pub others_small : (looks : List Look) → All (λ look. (a : ℕ) → look a < 0x10000) looks → All (λ look. (a : ℕ) → look a < 0x10000) (other_looks looks)
others_small [] w = w
others_small (look ∷ more) w = λ n d low. w (suc n) d (omega arith)

-- effects in front change nothing of that
behind_words : (es : List Effect) (o : MachineOutcome) → LeavesWords o → LeavesWords (step_behind es o)
behind_words es (Goes fs c t) h = h
behind_words es (Stops fs price e) h = h

-- an instruction of code
looking_words : (looks : List Look) (s : MachineBoard) (i : Instr) → All (λ look. (a : ℕ) → look a < 0x10000) looks → IsMachineOfWords s
    → InstructionHas IsWord i → LeavesWords (executed_looking looks s i)
looking_words looks s i w h k =
    let left : Inputs = record s.inputs { looks = other_looks looks } in
    let words : InputsAreWords left = record { readings = h.inputs.readings; looks = others_small looks w } in
    behind_words (look_effects looks) _
    (executed_words (Some (first_look looks)) (record s { inputs = left }) i (first_small looks w)
    (record { registers = h.registers; fram = h.fram; ram = h.ram; inputs = words; outnum = h.outnum }) k)

either_words : (b : Bool) (o p : MachineOutcome) → LeavesWords o → LeavesWords p → LeavesWords (if b then o else p)
either_words true o p h k = h
either_words false o p h k = k

code_words : (s : MachineBoard) (i : Instr) → IsMachineOfWords s → InstructionHas IsWord i → LeavesWords (code_executed s i)
code_words s i h k =
    either_words (looks_there i) _ _ (looking_words s.inputs.looks s i h.inputs.looks h k) (executed_words None s i tt h k)

pub machine_words_stay_words : MachineWordsStayWords
machine_words_stay_words s o h (NoInstruction e k) = tt
machine_words_stay_words s o h (Executes i k) =
    let q = opened_words None s tt h in
    executed_words None s i tt h (immediate_fetched machine_bus (machine_opened s) (λ a v e. some_on (is_word a) (machine_word (machine_opened s) a) v
    (word_small (machine_opened s) a q) e) i (s.registers 0) k.fetched)

uncovered_known : (b : Bool) (ram : ℕ → Option ℕ) (from upto : ℕ) → ((a : ℕ) → IsKnownWord (ram a))
    → (a : ℕ) → IsKnownWord ((if b then forgotten from upto ram else ram) a)
uncovered_known true ram from upto h a = either_known (nat_le from a && nat_lt a upto) None (ram a) none_known (h a)
uncovered_known false ram from upto h a = h a

uncovered_words : (i : Instr) (s : MachineBoard) (o : MachineOutcome) → LeavesWords o → LeavesWords (uncovering i s o)
uncovered_words i s (Goes es c t) h = record {
  registers = h.registers;
  fram = h.fram;
  ram = uncovered_known (is_interruptible s.registers) t.ram (uncovered_from i (t.registers 1)) (s.registers 1) h.ram;
  inputs = h.inputs;
  outnum = h.outnum;
}
uncovered_words i s (Stops es price e) h = tt

standing_words : (o : Option Instr) (s : MachineBoard) → ((i : Instr) → o ≡ Some i → All (λ w. w < 0x10000) (encoding i)) → IsMachineOfWords s
    → LeavesWords (standing o s)
standing_words None s e h = tt
standing_words (Some i) s e h = uncovered_words i s (code_executed s i) (code_words s i h (immediate_encoded i (e i refl)))

stopped_if_words : (b : Bool) (e : Stop) (o : MachineOutcome) → LeavesWords o → LeavesWords (if b then Stops [] 0 e else o)
stopped_if_words true e o h = tt
stopped_if_words false e o h = h

undisturbed_words : (events : Bool) (s : MachineBoard) (o : MachineOutcome) → LeavesWords o → LeavesWords (undisturbed events s o)
undisturbed_words events s (Goes es c t) h = stopped_if_words (is_exposed events s t) (astray s) (Goes es c t) h
undisturbed_words events s (Stops es price e) h = tt

pub code_words_stay_words : CodeWordsStayWords
code_words_stay_words code s e h =
    let i = code.at (s.registers 0) in
    undisturbed_words code.events s (step_with i s) (stopped_if_words (off_bit s.registers == 1) stop.Off (standing i s) (standing_words i s e h))

-- the board's bus
record ListsOfWords (s : BusState) : Type 0 where
  pub fram : All (λ w. w < 0x10000) s.fram
  pub ram : All (λ w. w < 0x10000) s.ram
  pub readings : All (λ w. w < 0x10000) s.readings
  pub outnum : IsWord s.outnum
  pub line : IsLineOfWords s.line
  pub radio : IsRadioOfWords s.radio

past_end : (ws : List ℕ) (k : ℕ) → length ws ≤ k → slice_index ws k ≡ 0
past_end [] k h = refl
past_end (w ∷ ws) zero h = absurd (omega arith)
past_end (w ∷ ws) (suc k) h = past_end ws k (omega arith)

index_by : (ws : List ℕ) (k : ℕ) → All (λ w. w < 0x10000) ws → (k < length ws) ⊎ (length ws ≤ k) → IsWord (slice_index ws k)
index_by ws k h (inl low) = h k 0 low
index_by ws k h (inr high) = let e = past_end ws k high in subst IsWord (sym e) (omega arith)

-- one of words is a word
pub index_small : (ws : List ℕ) (k : ℕ) → All (λ w. w < 0x10000) ws → IsWord (slice_index ws k)
index_small ws k h = index_by ws k h (cases_lt k (length ws))

list_word_small : (s : BusState) (a : ℕ) → ListsOfWords s → IsWord (memory_word s a)
list_word_small s a q =
    either_small (is_ram a) (slice_index s.ram (ram_place a)) (slice_index s.fram (place_of a)) (index_small s.ram (ram_place a) q.ram)
    (index_small s.fram (place_of a) q.fram)

next_on : (b : Bool) (x v : ℕ) → IsWord x → ◌≡◌ {A = Result ℕ Refused} (if b then Ok x else Err refused.NoReading) (Ok v) → IsWord v
next_on true x v h e = let same : x ≡ v = cc in subst IsWord same h
next_on false x v h e = absurd cc

port_small : (port : Option ℕ) → IfSome port (λ w. w < 0x10000) → IsWord (port_word port)
port_small None h = omega arith
port_small (Some w) h = h

number_small : (waits : Bool) (number v : ℕ) → IsWord number → (if waits then number else 0) ≡ v → IsWord v
number_small waits number v h e = subst IsWord e (either_small waits number 0 h (omega arith))

-- a word that is read of a radio
radio_small : (x : Radio) (waits : Bool) (a v : ℕ) → IsRadioOfWords x → radio_word x waits a ≡ Ok v → IsWord v
radio_small Alone waits a v h e = absurd cc
radio_small (Sends greatest) waits a v h e = ok_on (a == acknowledgements_port) greatest v _ h (λ g. no_word v g) e
radio_small (Listens number) waits a v h e =
    let read = if waits then number else 0 in
    ok_on (a == packet_number_port) read v _ (number_small waits number read h refl) (λ g. no_word v g) e

port_on : (b c : Bool) (v w : ℕ) (o n : Result ℕ Refused) → (o ≡ Ok v → IsWord v) → IsWord w → (n ≡ Ok v → IsWord v)
    → (if b then o else if c then Ok w else n) ≡ Ok v → IsWord v
port_on true c v w o n k h r e = k e
port_on false true v w o n k h r e = let same : w ≡ v = cc in subst IsWord same h
port_on false false v w o n k h r e = r e

read_small : (s : BusState) (a : ℕ) (w : Width) (v : ℕ) → ListsOfWords s → read_of s a w ≡ Ok v → IsWord v
read_small s a Word v q e =
    ok_on (is_word a) (memory_word s a) v _ (list_word_small s a q) (λ g. port_on (a == sensor_port) (a == event_port) v (port_word s.line.port)
    (next_reading s) (radio_word s.radio (is_full s.line.port) a)
    (λ r. next_on (nat_lt s.taken (length s.readings)) (slice_index s.readings s.taken) v (index_small s.readings s.taken q.readings) r)
    (port_small s.line.port q.line.port) (λ r. radio_small s.radio (is_full s.line.port) a v q.radio r) g) e
read_small s a Byte v q e = ok_on (is_memory a) (byte_of (memory_word s a) a) v _ (byte_small (memory_word s a) a (list_word_small s a q)) (λ g. no_word v g) e

line_read : (b : Bool) (q : EventLine) → IsLineOfWords q → IsLineOfWords (if b then port_read q else q)
line_read true q h = record { port = tt; coming = h.coming }
line_read false q h = h

after_lists : (s : BusState) (a : ℕ) (w : Width) → ListsOfWords s → ListsOfWords (after_read s a w)
after_lists s a Word q =
    record { fram = q.fram; ram = q.ram; readings = q.readings; outnum = q.outnum; line = line_read (a == event_port) s.line q.line; radio = q.radio }
after_lists s a Byte q = q

abbrev ListsIf : Option BusState → Type 0
ListsIf None = Unit {0}
ListsIf (Some t) = ListsOfWords t

if_lists : (b : Bool) (x y : Option BusState) → ListsIf x → ListsIf y → ListsIf (if b then x else y)
if_lists true x y h k = h
if_lists false x y h k = k

word_lists : (b : Bool) (s : BusState) (i j v : ℕ) → IsWord v → ListsOfWords s
    → ListsOfWords (if b then record s { ram = slice_set s.ram i v } else record s { fram = slice_set s.fram j v })
word_lists true s i j v h q =
    record { fram = q.fram; ram = All-set (λ w. w < 0x10000) s.ram i v h q.ram; readings = q.readings; outnum = q.outnum; line = q.line; radio = q.radio }
word_lists false s i j v h q =
    record { fram = All-set (λ w. w < 0x10000) s.fram j v h q.fram; ram = q.ram; readings = q.readings; outnum = q.outnum; line = q.line; radio = q.radio }

data_lists : (x : Radio) (s : BusState) (v : ℕ) → ListsOfWords s → ListsOfWords (data_written x s v)
data_lists Alone s v q = record { fram = q.fram; ram = q.ram; readings = q.readings; outnum = q.outnum; line = q.line; radio = q.radio }
data_lists (Sends greatest) s v q = record { fram = q.fram; ram = q.ram; readings = q.readings; outnum = q.outnum; line = q.line; radio = q.radio }
data_lists (Listens number) s v q = record { fram = q.fram; ram = q.ram; readings = q.readings; outnum = q.outnum; line = q.line; radio = q.radio }

answer_lists : (x : Radio) (s : BusState) (a v : ℕ) → ListsOfWords s → ListsIf (answer_written x s a v)
answer_lists Alone s a v q = tt
answer_lists (Sends greatest) s a v q = tt
answer_lists (Listens number) s a v q =
    if_lists (a == answer_port) (Some (record s { offered = None; sent = Some (v, 0) })) None (record
    { fram = q.fram; ram = q.ram; readings = q.readings; outnum = q.outnum; line = q.line; radio = q.radio }) tt

port_lists : (s : BusState) (a v : ℕ) → IsWord v → ListsOfWords s → ListsIf (port_written s a v)
port_lists s a v h q =
    if_lists (a == number_port) (Some (record s { outnum = v })) _ (record
    { fram = q.fram; ram = q.ram; readings = q.readings; outnum = h; line = q.line; radio = q.radio })
    (if_lists (a == data_port) (Some (data_written s.radio s v)) (answer_written s.radio s a v) (data_lists s.radio s v q) (answer_lists s.radio s a v q))

written_lists : (s : BusState) (a : ℕ) (w : Width) (v : ℕ) → IsWord v → ListsOfWords s → ListsIf (written s a w v)
written_lists s a Word v h q =
    if_lists (is_word a) (Some (with_word s a v)) (port_written s a v) (word_lists (is_ram a) s (ram_place a) (place_of a) v h q) (port_lists s a v h q)
written_lists s a Byte v h q =
    let x = with_byte (memory_word s a) a v in
    if_lists (is_memory a) (Some (with_word s a x)) None (word_lists (is_ram a) s (ram_place a) (place_of a) x
    (bytes_small (memory_word s a) a v (list_word_small s a q)) q) tt

write_lists : (s : BusState) (a : ℕ) (w : Width) (v : ℕ) (t : BusState) → ListsOfWords s → IsWord v → written s a w v ≡ Some t → ListsOfWords t
write_lists s a w v t q h e = subst (λ x. ListsIf x) e (written_lists s a w v h q)

board_closed_words : IsClosed board_bus IsWord AreSmall ListsOfWords
board_closed_words = record {
  register = λ r n p. p n;
  with = λ r n v low w p. with_small r n v low w p;
  read = λ s a w v q e. read_small s a w v q e;
  after = λ s a w v q e. after_lists s a w q;
  write = λ s a w v t q h e. write_lists s a w v t q h e;
  narrow = λ w v h. narrow_small w v h;
  sum = λ a b. sum_small a b;
  constant = λ k. constant_small k;
  status = λ sr f. status_small sr f;
  two = λ op w d s f g h. two_small op w d s f g h;
  rotate = λ w v f h. rotate_small w v f h;
  shift = λ w v f h. shift_small w v f h;
  exchange = λ w v f h. exchange_small w v f h;
  extend = λ w v f h. extend_small w v f h;
  nothing = omega arith;
}

all_nil : All (λ w. w < 0x10000) []
all_nil k d low = absurd (omega arith)

all_cons : (w : ℕ) (ws : List ℕ) → IsWord w → All (λ x. x < 0x10000) ws → All (λ x. x < 0x10000) (w ∷ ws)
all_cons w ws h k zero d low = h
all_cons w ws h k (suc n) d low = k n d (omega arith)

-- the same as pairs
abbrev AllIn : List ℕ → Type 0
AllIn [] = Unit {0}
AllIn (w ∷ ws) = IsWord w × AllIn ws

from_pairs : (ws : List ℕ) → AllIn ws → All (λ x. x < 0x10000) ws
from_pairs [] h = all_nil
from_pairs (w ∷ ws) h = all_cons w ws h.0 (from_pairs ws h.1)

all_registers : (r : Registers) → AreSmall r → All (λ w. w < 0x10000) (register_list r)
all_registers r h =
    from_pairs (register_list r)
    (h 0, (h 1, (h 2, (h 3, (h 4, (h 5, (h 6, (h 7, (h 8, (h 9, (h 10, (h 11, (h 12, (h 13, (h 14, (h 15, tt))))))))))))))))

closed_lists : (b : BoardValue) (r : Registers) (s : BusState) → AreSmall r → ListsOfWords s → IsOfWords (closed b r s)
closed_lists b r s h q = record { registers = all_registers r h; fram = q.fram; ram = q.ram; readings = q.readings; outnum = q.outnum; line = q.line; radio = q.radio }

registers_small : (b : BoardValue) → IsOfWords b → AreSmall (registers_of b.cpu)
registers_small b h n = index_small b.cpu n h.registers

opened_lists : (b : BoardValue) → IsOfWords b → ListsOfWords (opened b)
opened_lists b h = record { fram = h.fram; ram = h.ram; readings = h.readings; outnum = h.outnum; line = h.line; radio = h.radio }

access_lists : (b : BoardValue) (i : Instr) (m : Access BusState (Registers × Option Written)) → IsOfWords b
    → Gives ListsOfWords (λ y. AreSmall y.0) m → IsOfWords (board_outcome b (outcome_of i (registers_of b.cpu) m)).board
access_lists b i (Completed x s) h g = closed_lists b x.0 s g.0 g.1
access_lists b i (Faulted e a s) h g = closed_lists b (registers_of b.cpu) s (registers_small b h) g

outcome_lists : (b : BoardValue) (o : Outcome BusState) → IsOfWords b → StepResult board_bus (registers_of b.cpu) (opened b) o
    → IsOfWords (board_outcome b o).board
outcome_lists b o h (Stopped e k) = closed_lists b (registers_of b.cpu) (opened b) (registers_small b h) (opened_lists b h)
outcome_lists b o h (Executed i k) =
    let q = opened_lists b h in
    let has = immediate_fetched board_bus (opened b) (λ a v e. some_on (is_word a) (memory_word (opened b) a) v (list_word_small (opened b) a q) e) i
    (registers_of b.cpu 0) k.fetched in
    access_lists b i (effect board_bus i (registers_of b.cpu) (opened b)) h (effect_gives board_bus IsWord AreSmall ListsOfWords board_closed_words i
    (registers_of b.cpu) (opened b) has (registers_small b h) q)

-- FRAM and readings stay words
pub words_stay_words : WordsStayWords
words_stay_words b x w h is = subst (λ y. IsOfWords y.board) (sym is.2) (outcome_lists b is.0 h is.1)

-- a step leaves a board whole
valid_registers : (b : BoardValue) → IsWhole b → IsValid (registers_of b.cpu)
valid_registers b h = let r = h.registers in record { pc = r.even_pc; sp = r.even_sp; sr = r.sr; r3 = r.r3 }

-- memory is whole, and the words of the board go to its own receiver
record IsWholeBus (s : BusState) : Type 0 where
  pub lists : IsBusState s
  pub own : is_sender s.radio ≡ false

opened_whole : (b : BoardValue) → IsWhole b → IsWholeBus (opened b)
opened_whole b h = record { lists = h.board; own = h.own }

closed_whole : (b : BoardValue) (r : Registers) (s : BusState) → IsValid r → IsWholeBus s → IsWhole (closed b r s)
closed_whole b r s v whole =
    let g = whole.lists in
    record {
      board = record { fram = g.fram; ram = g.ram; taken = g.taken; few = g.few };
      registers = record
          { long = refl; even_pc = v.pc; even_sp = v.sp; sr = v.sr; r3 = v.r3 };
      own = whole.own;
    }

next_left : (b : Bool) (s : BusState) (v : ℕ) → nat_lt s.taken (length s.readings) ≡ b
    → (if b then Ok (slice_index s.readings s.taken) else Err refused.NoReading) ≡ Ok v → s.taken + 1 ≤ length s.readings
next_left true s v e r = grind (arith, nat_tests)
next_left false s v e r = absurd cc

taken_within : (b : Bool) (s : BusState) (a v : ℕ) → (a == sensor_port) ≡ b → IsBusState s → read_of s a Word ≡ Ok v
    → (if b then s.taken + 1 else s.taken) ≤ length s.readings
taken_within true s a v e g r =
    let sensed : next_reading s ≡ Ok v = subst (λ x. read_of s x Word ≡ Ok v) (eqb-true a sensor_port e) r in
    next_left (nat_lt s.taken (length s.readings)) s v refl sensed
taken_within false s a v e g r = g.taken

read_whole : (s : BusState) (a : ℕ) (w : Width) (v : ℕ) → IsWholeBus s → read_of s a w ≡ Ok v → IsWholeBus (after_read s a w)
read_whole s a Word v whole r =
    let g = whole.lists in
    record {
      lists = record { fram = g.fram; ram = g.ram; taken = taken_within (a == sensor_port) s a v refl g r; few = g.few };
      own = whole.own;
    }
read_whole s a Byte v whole r = whole

word_whole : (b : Bool) (s : BusState) (i j v : ℕ) → IsWholeBus s
    → IsWholeBus (if b then record s { ram = slice_set s.ram i v } else record s { fram = slice_set s.fram j v })
word_whole true s i j v whole =
    let g = whole.lists in
    record { lists = record { fram = g.fram; ram = length-set s.ram i v ∙ g.ram; taken = g.taken; few = g.few }; own = whole.own }
word_whole false s i j v whole =
    let g = whole.lists in
    record { lists = record { fram = length-set s.fram j v ∙ g.fram; ram = g.ram; taken = g.taken; few = g.few }; own = whole.own }

with_word_whole : (s : BusState) (a v : ℕ) → IsWholeBus s → IsWholeBus (with_word s a v)
with_word_whole s a v g = word_whole (is_ram a) s (ram_place a) (place_of a) v g

-- what differs in the ports alone is as whole
ports_whole : (s : BusState) (number : ℕ) (word : Option ℕ) (packet : Option (ℕ × ℕ)) → IsWholeBus s
    → IsWholeBus (record s { outnum = number; offered = word; sent = packet })
ports_whole s number word packet whole =
    let g = whole.lists in
    record { lists = record { fram = g.fram; ram = g.ram; taken = g.taken; few = g.few }; own = whole.own }

data_whole : (x : Radio) (s : BusState) (v : ℕ) → IsWholeBus s → IsWholeBus (data_written x s v)
data_whole Alone s v whole = ports_whole s s.outnum (Some v) None whole
data_whole (Sends greatest) s v whole = ports_whole s s.outnum None (Some (s.outnum, v)) whole
data_whole (Listens number) s v whole = ports_whole s s.outnum (Some v) None whole

abbrev WholeIf : Option BusState → Type 0
WholeIf None = Unit {0}
WholeIf (Some t) = IsWholeBus t

if_whole : (b : Bool) (x y : Option BusState) → WholeIf x → WholeIf y → WholeIf (if b then x else y)
if_whole true x y h k = h
if_whole false x y h k = k

answer_whole : (x : Radio) (s : BusState) (a v : ℕ) → IsWholeBus s → WholeIf (answer_written x s a v)
answer_whole Alone s a v whole = tt
answer_whole (Sends greatest) s a v whole = tt
answer_whole (Listens number) s a v whole =
    if_whole (a == answer_port) (Some (record s { offered = None; sent = Some (v, 0) })) None (ports_whole s s.outnum None (Some (v, 0)) whole) tt

port_whole : (s : BusState) (a v : ℕ) → IsWholeBus s → WholeIf (port_written s a v)
port_whole s a v whole =
    if_whole (a == number_port) (Some (record s { outnum = v })) _ (ports_whole s v s.offered s.sent whole)
    (if_whole (a == data_port) (Some (data_written s.radio s v)) (answer_written s.radio s a v) (data_whole s.radio s v whole)
    (answer_whole s.radio s a v whole))

written_whole : (s : BusState) (a : ℕ) (w : Width) (v : ℕ) → IsWholeBus s → WholeIf (written s a w v)
written_whole s a Word v g = if_whole (is_word a) (Some (with_word s a v)) (port_written s a v) (with_word_whole s a v g) (port_whole s a v g)
written_whole s a Byte v g =
    let x = with_byte (memory_word s a) a v in
    if_whole (is_memory a) (Some (with_word s a x)) None (with_word_whole s a x g) tt

whole_closed : IsClosed board_bus (λ v. Unit {0}) (λ r. Unit {0}) IsWholeBus
whole_closed = record {
  register = λ r n p. tt;
  with = λ r n v low w p. tt;
  read = λ s a w v q e. tt;
  after = λ s a w v q e. read_whole s a w v q e;
  write = λ s a w v t q h e. subst WholeIf e (written_whole s a w v q);
  narrow = λ w v h. tt;
  sum = λ a b. tt;
  constant = λ k. tt;
  status = λ sr f. tt;
  two = λ op w d s f g h. tt;
  rotate = λ w v f h. tt;
  shift = λ w v f h. tt;
  exchange = λ w v f h. tt;
  extend = λ w v f h. tt;
  nothing = tt;
}

access_whole : (b : BoardValue) (i : Instr) (m : Access BusState (Registers × Option Written)) → IsWhole b → Gives IsWholeBus (λ y. Unit {0}) m
    → laws.Gives m (λ y. IsValid y.0) → IsWhole (board_outcome b (outcome_of i (registers_of b.cpu) m)).board
access_whole b i (Completed x s) h g v = closed_whole b x.0 s v g.1
access_whole b i (Faulted e a s) h g v = closed_whole b (registers_of b.cpu) s (valid_registers b h) g

outcome_whole : (b : BoardValue) (o : Outcome BusState) → IsWhole b → StepResult board_bus (registers_of b.cpu) (opened b) o → IsWhole (board_outcome b o).board
outcome_whole b o h (Stopped e k) = closed_whole b (registers_of b.cpu) (opened b) (valid_registers b h) (opened_whole b h)
outcome_whole b o h (Executed i k) =
    let r = registers_of b.cpu in
    access_whole b i (effect board_bus i r (opened b)) h
    (effect_gives board_bus (λ v. Unit {0}) (λ q. Unit {0}) IsWholeBus whole_closed i r (opened b) (instruction_free i) tt (opened_whole b h))
    (stays_valid board_bus i r (opened b) (valid_registers b h))

-- a step leaves a whole board
pub step_leaves_it_whole : StepLeavesItWhole
step_leaves_it_whole b x h is = subst (λ y. IsWhole y.board) (sym is.2) (outcome_whole b is.0 h is.1)

-- an acceptance
by_tests : (P : Outcome BusState → Type 0) (a b : Bool) (x y z : Outcome BusState) → P x → P y → P z → P (if not a then x else if not b then y else z)
by_tests P true true x y z p q h = h
by_tests P true false x y z p q h = q
by_tests P false b x y z p q h = p

interrupted_valid : (r : Registers) (v : ℕ) → IsValid r → IsValid (interrupted r v)
interrupted_valid r v h = record {
  pc = let e : v / 2 * 2 % 2 ≡ 0 = omega arith in e;
  sp = let e : status_place r / 2 * 2 % 2 ≡ 0 = omega arith in e;
  sr = omega arith;
  r3 = h.r3;
}

interrupted_small : (r : Registers) (v : ℕ) → IsWord v → AreSmall r → AreSmall (interrupted r v)
interrupted_small r v h k =
    let lowered = with_register r 1 (status_place r) in
    with_small (with_register lowered 2 0) 0 v (omega arith) h
    (with_small lowered 2 0 (omega arith) (omega arith) (with_small r 1 (status_place r) (omega arith) (sum_small (r 1) 0xFFFC) k))

-- an acceptance, made or refused, leaves a whole board, and words
pub acceptance_keeps_words : AcceptanceKeepsWords
acceptance_keeps_words b h w =
    let r = registers_of b.cpu in
    let s = with_word (opened b) (return_place r) (r 0) in
    let t = with_word s (status_place r) (r 2) in
    let small = registers_small b w in
    let valid = valid_registers b h in
    let first = word_lists (is_ram (return_place r)) (opened b) (ram_place (return_place r)) (place_of (return_place r)) (r 0) (small 0) (opened_lists b w) in
    let both = word_lists (is_ram (status_place r)) s (ram_place (status_place r)) (place_of (status_place r)) (r 2) (small 2) first in
    let whole = with_word_whole s (status_place r) (r 2) (with_word_whole (opened b) (return_place r) (r 0) (opened_whole b h)) in
    let vector = slice_index t.fram (place_of event_vector) in
    let to = interrupted r vector in
    let P : Outcome BusState → Type 0 = λ o. IsWhole (board_outcome b o).board × IsOfWords (board_outcome b o).board in
    let first_refused : P (acceptance_refused r (opened b) (return_place r)) =
    (closed_whole b r (opened b) valid (opened_whole b h), closed_lists b r (opened b) small (opened_lists b w)) in
    let second_refused : P (acceptance_refused r (opened b) (status_place r)) = first_refused in
    by_tests P (is_word (return_place r)) (is_word (status_place r))
    (acceptance_refused r (opened b) (return_place r)) (acceptance_refused r (opened b) (status_place r)) (acceptance_made r t) first_refused second_refused (
      closed_whole b to t (interrupted_valid r vector valid) whole,
      closed_lists b to t (interrupted_small r vector (index_small t.fram (place_of event_vector)
          both.fram) small) both,
    )

-- a board of words as a machine
drop_small : (n : ℕ) (ws : List ℕ) → All (λ w. w < 0x10000) ws → All (λ w. w < 0x10000) (drop n ws)
drop_small zero ws h = h
drop_small (suc n) [] h = h
drop_small (suc n) (w ∷ ws) h = drop_small n ws (all_tail w ws h)

no_looks : All (λ (look : Look). (a : ℕ) → look a < 0x10000) []
no_looks k d low = absurd (omega arith)

-- what a board of words is as a machine
pub machine_is_of_words : MachineIsOfWords
machine_is_of_words b h = record {
  registers = λ n. index_small b.cpu n h.registers;
  fram = λ a. either_small ((a % 2 == 0) && is_fram a) (slice_index b.fram (place_of a)) 0 (index_small b.fram (place_of a) h.fram) (omega arith);
  ram = λ a. some_known _ (either_small ((a % 2 == 0) && is_ram a) (slice_index b.ram (ram_place a)) 0 (index_small b.ram (ram_place a) h.ram) (omega arith));
  inputs = record { readings = drop_small b.taken b.readings h.readings; looks = no_looks };
  outnum = h.outnum;
}

-- a radio as power comes back
powered_own : (x : Radio) → is_sender x ≡ false → is_sender (radio_powered x) ≡ false
powered_own Alone own = own
powered_own (Sends greatest) own = own
powered_own (Listens number) own = own

radio_words : (x : Radio) → IsRadioOfWords (radio_powered x)
radio_words Alone = tt
radio_words (Sends greatest) = omega arith
radio_words (Listens number) = omega arith

-- a power-up
pub power_up_keeps_words : PowerUpKeepsWords
power_up_keeps_words b p h w q =
    let l = power_up_leaves_a_board b p h.board q in (
      record { board = l.0; registers = l.1; own = powered_own b.radio h.own },
      record {
        registers =
            all_cons (kept 0 (slice_index b.fram (place_of 0xFFFE))) (kept 1 p.sp ∷ 0 ∷ 0 ∷ p.work)
            (kept_small 0 (slice_index b.fram (place_of 0xFFFE)) (index_small b.fram (place_of 0xFFFE) w.fram))
            (all_cons (kept 1 p.sp) (0 ∷ 0 ∷ p.work) (kept_small 1 p.sp q.sp) (all_cons 0 (0 ∷ p.work) (omega arith) (all_cons 0 p.work (omega arith) q.work)));
        fram = w.fram;
        ram = q.ram;
        readings = w.readings;
        outnum = q.outnum;
        line = line_powered b.line w.line;
        radio = radio_words b.radio;
      },
    )

-- a fresh board
zero_small : IsWord 0
zero_small = omega arith

blank : (n : ℕ) → All (λ w. w < 0x10000) (filled_words n 0)
unfolding filled_words
blank n = All-replicate (λ x. x < 0x10000) n 0 (omega arith)

blank_length : (n : ℕ) → length (filled_words n 0) ≡ n
unfolding filled_words
blank_length n = length-replicate n 0

fresh_registers : (v : ℕ) → IsWord v → All (λ w. w < 0x10000) (powered_up v 0)
fresh_registers v h = from_pairs (powered_up v 0) (
  kept_small 0 v h,
  (
    kept_small 1 0 zero_small,
    (
      zero_small,
      (
        zero_small,
        (
          zero_small,
          (
            zero_small,
            (
              zero_small,
              (
                zero_small,
                (
                  zero_small,
                  (
                    zero_small,
                    (zero_small, (zero_small, (zero_small, (zero_small, (zero_small, (zero_small, tt)))))),
                  ),
                ),
              ),
            ),
          ),
        ),
      ),
    ),
  ),
)

-- a fresh board is whole and holds words
pub fresh_is_whole : FreshIsWhole
fresh_is_whole fram readings events long few f r e = (
  record {
    board = record { fram = long; ram = blank_length 1024; taken = omega arith; few = few };
    registers = record { long = refl; even_pc = omega arith; even_sp = refl; sr = omega arith; r3 = refl };
    own = refl;
  },
  record {
    registers = fresh_registers (vector_of fram) (index_small fram (place_of 0xFFFE) f);
    fram = f;
    ram = blank 1024;
    readings = r;
    outnum = zero_small;
    line = record { port = tt; coming = e };
    radio = tt;
  },
)

-- a step of the board, made or refused, keeps them both
pub performed_keeps_words : (b : BoardValue) (n : NextStep) → IsWhole b → IsOfWords b → IsNextStep b n
    → IsWhole (performed b n).board × IsOfWords (performed b n).board
performed_keeps_words b next_step.Acceptance h w next = acceptance_keeps_words b h w
performed_keeps_words b (next_step.Instruction i) h w next =
    let is = executed_is_step b i next.1 in
    (step_leaves_it_whole b (executed b i) h is, words_stay_words b (executed b i) h w is)

charge_words : (m : Measure) (amount : ℕ) (b : BoardValue) (r : RunOutcome) → IsWhole b → IsOfWords b → ChargeRun m amount b r
    → IsWhole r.board × IsOfWords r.board
charge_words m amount b r h w (run.Spent _ _ none) = (h, w)
charge_words m amount b r h w (run.NoInstruction _ _ e pos none) = (h, w)
charge_words m amount b r h w (run.TooDear _ _ n pos next dear) = (h, w)
charge_words m amount b r h w (run.Refused _ _ n e pos next paid a) = performed_keeps_words b n h w next
charge_words m amount b r h w (run.Executed _ _ n done rest pos next paid a more) =
    let behind = performed_keeps_words b n h w next in
    let at = boundary_keeps_words (performed b n).board behind.0 behind.1 in
    charge_words m (amount - price m n) (at_boundary (performed b n).board) rest at.0 at.1 more

-- and so does a charge
pub charge_keeps_words : ChargeKeepsWords
charge_keeps_words m amount b r h w c = charge_words m amount b r h w c
