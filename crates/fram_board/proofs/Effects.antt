-- A step changes FRAM by its one store, and the receiver by its one send.
use Rattle.std.proofs.Common.{◌≡◌, ◌≤◌, ◌<◌, ◌-◌, ◌%◌, ◌==◌, if◌then◌else◌, arith, ℕ, refl, sym, ◌∙◌, ap, subst, Bool, true, false, List, [], ◌∷◌, ◌++◌, map}
use Rattle.std.proofs.Common.{length, slice_index, slice_set, slice_range, Option, Some, None, Result, Ok, Err}
use Rattle.std.specs.Option.{option_map}
use Rattle.std.proofs.lemmas.Bool.Decides.{nat_tests}
use Rattle.std.proofs.lemmas.List.{get_or-set_same}
use Rattle.std.proofs.lemmas.Bool.{and_parts}
use Rattle.alp_words.specs.declared.Width.{Width}
use Rattle.alp_words.specs.declared.Width.TheVariants.{Word, Byte}
use Rattle.msp_isa.specs.declared.instructions.Instr.{Instr}
use Rattle.msp_step.specs.declared.machine.Stop.{Stop}
use Rattle.msp_step.specs.declared.machine.Stepped as machine
use Rattle.msp_step.specs.Registers.{Registers, registers_of}
use Rattle.msp_step.specs.Access.{Access, Completed, Faulted}
use Rattle.msp_step.specs.Effect.{Written}
use Rattle.msp_step.specs.Step.{Outcome, outcome_of, effect, StepResult, Stopped, Executed}
use Rattle.msp_step.specs.Laws.{AfterWrite}
use Rattle.msp_step.proofs.Interface.{Ends, effect_ends}
use Rattle.state_text.specs.image_text.ImageValue.{place_of}
use Rattle.fram_board.specs.declared.receiver.Receiver.{Receiver}
use Rattle.fram_board.specs.Bus.{BusState, board_bus, is_ram, is_fram, is_memory, is_word, written, port_written, with_word, with_byte, memory_word, ram_place}
use Rattle.fram_board.specs.Bus.{number_port, data_port, answer_port, data_written, answer_written}
use Rattle.fram_board.specs.declared.radio.Radio.{Radio}
use Rattle.fram_board.specs.declared.radio.Radio.TheVariants.{Alone, Sends, Listens}
use Rattle.fram_board.specs.Board.{BoardValue, BoardOutcome, opened, answer_of, board_outcome, receiver_after}
use Rattle.fram_board.specs.Effects.{Effect, Store, Take, store_at, stores_of, sends_of, stored, heard, MakesItsEffects}
use Rattle.fram_board.specs.Laws.{StepMakesItsEffects}
use Rattle.fram_board.proofs.Takes.{TakesUpTo, TakesOnly, only_takes, execution_takes}

-- what a write left of FRAM and for the receiver
record Facts (s : BusState) (wrote : Option ℕ) (t : BusState) : Type 0 where
  pub fram : t.fram ≡ stored (store_at wrote t.fram) s.fram
  pub sent : (r : Receiver) → receiver_after t.outnum t.offered r ≡ heard (sends_of s.outnum t.offered) r
  pub readings : t.readings ≡ s.readings

sent_none : (n k : ℕ) (o : Option ℕ) (r : Receiver) → o ≡ None → receiver_after n o r ≡ heard (sends_of k o) r
sent_none n k o r e = let P : Option ℕ → Type 0 = λ x. receiver_after n x r ≡ heard (sends_of k x) r in subst P (sym e) refl

-- RAM is no FRAM
pub ram_not_fram : (a : ℕ) → is_ram a ≡ true → is_fram a ≡ false
ram_not_fram a e = grind (arith, nat_tests)

-- memory that isn't RAM is FRAM
pub other_is_fram : (a : ℕ) → is_ram a ≡ false → is_memory a ≡ true → is_fram a ≡ true
other_is_fram a e h = grind (arith, nat_tests)

-- FRAM's addresses
pub fram_low : (a : ℕ) → is_fram a ≡ true → (0x4400 ≤ a) × (a < 0x10000)
fram_low a e = grind (arith, nat_tests)

number_not_fram : (a : ℕ) → (a == number_port) ≡ true → is_fram a ≡ false
number_not_fram a e = grind (arith, nat_tests)

-- the port that takes words is no FRAM
pub data_not_fram : (a : ℕ) → (a == data_port) ≡ true → is_fram a ≡ false
data_not_fram a e = grind (arith, nat_tests)

answer_not_fram : (a : ℕ) → (a == answer_port) ≡ true → is_fram a ≡ false
answer_not_fram a e = grind (arith, nat_tests)

no_store : (a : ℕ) (f : List ℕ) → is_fram a ≡ false → store_at (Some a) f ≡ []
no_store a f e = rw e refl

elsewhere : (s t : BusState) (a : ℕ) → is_fram a ≡ false → t.fram ≡ s.fram → t.readings ≡ s.readings
    → ((r : Receiver) → receiver_after t.outnum t.offered r ≡ heard (sends_of s.outnum t.offered) r) → Facts s (Some a) t
elsewhere s t a e f g h = record { fram = f ∙ ap (λ es. stored es s.fram) (sym (no_store a t.fram e)); sent = h; readings = g }

even_place : (a : ℕ) → 0x4400 ≤ a → place_of (a - a % 2) ≡ place_of a
even_place a h = omega arith

stored_back : (f : List ℕ) (a v : ℕ) → is_fram a ≡ true → length f ≡ 24064
    → slice_set f (place_of a) v ≡ stored (store_at (Some a) (slice_set f (place_of a) v)) f
stored_back f a v e len =
    let low = fram_low a e in
    let l = low.0 in
    let h = low.1 in
    let same : slice_index (slice_set f (place_of a) v) (place_of a) ≡ v = get_or-set_same f (place_of a) v 0 (omega arith) in
    rw (e, even_place a l, same) refl

in_fram : (s : BusState) (a v : ℕ) → is_fram a ≡ true → length s.fram ≡ 24064 → s.offered ≡ None
    → Facts s (Some a) (record s { fram = slice_set s.fram (place_of a) v })
in_fram s a v e len off = record { fram = stored_back s.fram a v e len; sent = λ r. sent_none s.outnum s.outnum s.offered r off; readings = refl }

word_facts : (s : BusState) (a v : ℕ) (b : Bool) → is_ram a ≡ b → is_memory a ≡ true → length s.fram ≡ 24064 → s.offered ≡ None
    → Facts s (Some a) (if b then record s { ram = slice_set s.ram (ram_place a) v } else record s { fram = slice_set s.fram (place_of a) v })
word_facts s a v true e m len off =
    elsewhere s (record s { ram = slice_set s.ram (ram_place a) v }) a (ram_not_fram a e) refl refl (λ r. sent_none s.outnum s.outnum s.offered r off)
word_facts s a v false e m len off = in_fram s a v (other_is_fram a e m) len off

abbrev FactsIf : BusState → Option ℕ → Option BusState → Type 0
FactsIf s w None = Unit {0}
FactsIf s w (Some t) = Facts s w t

data_facts : (s : BusState) (x : Radio) (a v : ℕ) → is_fram a ≡ false → Facts s (Some a) (data_written x s v)
data_facts s Alone a v e = elsewhere s (data_written Alone s v) a e refl refl (λ r. refl)
data_facts s (Sends greatest) a v e = elsewhere s (data_written (Sends greatest) s v) a e refl refl (λ r. refl)
data_facts s (Listens number) a v e = elsewhere s (data_written (Listens number) s v) a e refl refl (λ r. refl)

served : (s : BusState) (a : ℕ) (b : Bool) (x y : Option BusState) → (b ≡ true → FactsIf s (Some a) x) → FactsIf s (Some a) y
    → FactsIf s (Some a) (if b then x else y)
served s a true x y g h = g refl
served s a false x y g h = h

answer_facts : (s : BusState) (x : Radio) (a v : ℕ) → FactsIf s (Some a) (answer_written x s a v)
answer_facts s Alone a v = tt
answer_facts s (Sends greatest) a v = tt
answer_facts s (Listens number) a v =
    let t : BusState = record s { offered = None; sent = Some (v, 0) } in
    served s a (a == answer_port) (Some t) None (λ e. elsewhere s t a (answer_not_fram a e) refl refl (λ r. refl)) tt

port_facts : (s : BusState) (a v : ℕ) → s.offered ≡ None → FactsIf s (Some a) (port_written s a v)
port_facts s a v off =
    served s a (a == number_port) (Some (record s { outnum = v })) _
    (λ e. elsewhere s (record s { outnum = v }) a (number_not_fram a e) refl refl (λ r. sent_none v s.outnum s.offered r off))
    (served s a (a == data_port) (Some (data_written s.radio s v)) (answer_written s.radio s a v) (λ e. data_facts s s.radio a v (data_not_fram a e))
    (answer_facts s s.radio a v))

written_facts : (s : BusState) (a : ℕ) (w : Width) (v : ℕ) → length s.fram ≡ 24064 → s.offered ≡ None → FactsIf s (Some a) (written s a w v)
written_facts s a Word v len off =
    served s a (is_word a) (Some (with_word s a v)) (port_written s a v)
    (λ e. word_facts s a v (is_ram a) refl (and_parts (a % 2 == 0) (is_memory a) e).1 len off)
    (port_facts s a v off)
written_facts s a Byte v len off =
    served s a (is_memory a) (Some (with_word s a (with_byte (memory_word s a) a v))) None
    (λ e. word_facts s a (with_byte (memory_word s a) a v) (is_ram a) refl e len off) tt

write_facts : (s t : BusState) (w : Option Written) → length s.fram ≡ 24064 → s.offered ≡ None → AfterWrite board_bus w s t
    → Facts s (option_map (λ p. p.0) w) t
write_facts s t None len off h =
    let P : BusState → Type 0 = λ x. Facts s None x in
    subst P (sym h) (record { fram = refl; sent = λ r. sent_none s.outnum s.outnum s.offered r off; readings = refl })
write_facts s t (Some w) len off h = let P : Option BusState → Type 0 = λ x. FactsIf s (Some w.0) x in subst P h.1 (written_facts s w.0 h.0 w.1 len off)

-- reads before it change none of this
after_reads : (s u t : BusState) (w : Option ℕ) → TakesOnly 2 s u → Facts u w t → Facts s w t
after_reads s u t w g f =
    let P : BusState → Type 0 = λ x. Facts x w t in
    let h = subst P g.same f in
    record { fram = h.fram; sent = h.sent; readings = h.readings }

abbrev wrote_of : Result machine.Stepped Stop → Option ℕ
wrote_of (Ok done) = done.wrote
wrote_of (Err stop) = None

read_facts : (s t : BusState) → TakesOnly 2 s t → s.offered ≡ None → Facts s None t
read_facts s t g off =
    after_reads s t t None g (record { fram = refl; sent = λ r. sent_none t.outnum t.outnum t.offered r (ap (λ x. x.offered) g.same ∙ off); readings = refl })

outcome_facts : (i : Instr) (r : Registers) (s : BusState) (m : Access BusState (Registers × Option Written)) → length s.fram ≡ 24064 → s.offered ≡ None
    → Ends board_bus 2 s m
    → Facts s (wrote_of (outcome_of i r m).answer) (outcome_of i r m).bus
outcome_facts i r s (Completed x t) len off h =
    let g = only_takes 2 s h.0 h.1 in
    after_reads s h.0 t (option_map (λ p. p.0) x.1) g (write_facts h.0 t x.1 (ap (λ y. length y.fram) g.same ∙ len) (ap (λ y. y.offered) g.same ∙ off) h.2)
outcome_facts i r s (Faulted e a t) len off h = read_facts s t (only_takes 2 s t h) off

-- of a step of the CPU on the board's bus
record StepFacts (s : BusState) (o : Outcome BusState) : Type 0 where
  pub facts : Facts s (wrote_of o.answer) o.bus
  pub takes : TakesUpTo 2 s o.bus

step_facts : (r : Registers) (s : BusState) (o : Outcome BusState) → length s.fram ≡ 24064 → s.offered ≡ None → StepResult board_bus r s o → StepFacts s o
step_facts r s o len off (Stopped e h) = record {
  facts = record { fram = refl; sent = λ r. sent_none s.outnum s.outnum s.offered r off; readings = refl };
  takes = record { from = omega arith; to = omega arith };
}
step_facts r s o len off (Executed i h) = record {
  facts = outcome_facts i r s (effect board_bus i r s) len off (effect_ends board_bus i r s);
  takes = execution_takes i r s;
}

-- the effects of a step, one kind at a time
stored_takes : (ws : List ℕ) (es : List Effect) (f : List ℕ) → stored (map (λ w. Take w) ws ++ es) f ≡ stored es f
stored_takes [] es f = refl
stored_takes (w ∷ ws) es f = stored_takes ws es f

heard_takes : (ws : List ℕ) (es : List Effect) (r : Receiver) → heard (map (λ w. Take w) ws ++ es) r ≡ heard es r
heard_takes [] es r = refl
heard_takes (w ∷ ws) es r = heard_takes ws es r

stored_send : (n : ℕ) (o : Option ℕ) (f : List ℕ) → stored (sends_of n o) f ≡ f
stored_send n None f = refl
stored_send n (Some w) f = refl

either_stored : (b : Bool) (a w : ℕ) (es : List Effect) (f : List ℕ) → ((g : List ℕ) → stored es g ≡ g)
    → stored ((if b then Store a w ∷ [] else []) ++ es) f ≡ stored (if b then Store a w ∷ [] else []) f
either_stored true a w es f h = h (slice_set f (place_of a) w)
either_stored false a w es f h = h f

stored_then : (o : Option ℕ) (g : List ℕ) (es : List Effect) (f : List ℕ) → ((h : List ℕ) → stored es h ≡ h)
    → stored (store_at o g ++ es) f ≡ stored (store_at o g) f
stored_then None g es f h = h f
stored_then (Some a) g es f h = either_stored (is_fram a) (a - a % 2) (slice_index g (place_of a)) es f h

either_heard : (b : Bool) (a w : ℕ) (es : List Effect) (r : Receiver) → heard ((if b then Store a w ∷ [] else []) ++ es) r ≡ heard es r
either_heard true a w es r = refl
either_heard false a w es r = refl

heard_then : (o : Option ℕ) (g : List ℕ) (es : List Effect) (r : Receiver) → heard (store_at o g ++ es) r ≡ heard es r
heard_then None g es r = refl
heard_then (Some a) g es r = either_heard (is_fram a) (a - a % 2) (slice_index g (place_of a)) es r

stores_are : (b : BoardValue) (s : BusState) (a : Result machine.Stepped Stop) (after : BoardValue) → after.fram ≡ s.fram
    → stores_of (answer_of b s a) after ≡ store_at (wrote_of a) s.fram
stores_are b s (Ok done) after e = ap (λ f. store_at done.wrote f) e
stores_are b s (Err stop) after e = refl

outcome_makes : (b : BoardValue) (o : Outcome BusState) → StepFacts (opened b) o → MakesItsEffects b (board_outcome b o)
outcome_makes b o h =
    let x = board_outcome b o in
    let ws = slice_range b.readings b.taken x.board.taken in
    let sends = sends_of b.outnum o.bus.offered in
    let stores = store_at (wrote_of o.answer) o.bus.fram in
    let are = stores_are b o.bus o.answer x.board refl in
    record {
      fram = h.facts.fram
          ∙ sym (stored_then (wrote_of o.answer) o.bus.fram sends b.fram (stored_send b.outnum o.bus.offered))
          ∙ ap (λ es. stored (es ++ sends) b.fram) (sym are)
          ∙ sym (stored_takes ws (stores_of x.answer x.board ++ sends) b.fram);
      receiver = h.facts.sent b.receiver
          ∙ sym (heard_then (wrote_of o.answer) o.bus.fram sends b.receiver)
          ∙ ap (λ es. heard (es ++ sends) b.receiver) (sym are)
          ∙ sym (heard_takes ws (stores_of x.answer x.board ++ sends) b.receiver);
      readings = h.facts.readings;
      from = h.takes.from;
      to = h.takes.to;
    }

-- a step is what its effects say
pub step_makes_its_effects : StepMakesItsEffects
step_makes_its_effects b x is h =
    let P : BoardOutcome → Type 0 = λ y. MakesItsEffects b y in
    subst P (sym h.2) (outcome_makes b h.0 (step_facts (registers_of b.cpu) (opened b) h.0 is.fram refl h.1))
