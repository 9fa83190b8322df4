-- What a handler may change the machine can't depend on.
use Rattle.std.proofs.Common.{◌≡◌, ◌==◌, ◌&&◌, ◌≤◌, ◌<◌, ◌-◌, ◌%◌, if◌then◌else◌, cond, nat_le, nat_lt, leb-true, ltb-true, arith, ℕ, refl, sym, ◌∙◌, ap, ap₂, subst}
use Rattle.std.proofs.Common.{Bool, true, false, List, [], ◌∷◌, ◌++◌, ◌⊎◌, inl, inr, Option, Some, None, Result, Ok, Err}
use Rattle.std.specs.Prelude.{is_some, unwrap_or}
use Rattle.std.proofs.lemmas.Bool.{and_parts}
use Rattle.std.proofs.lemmas.Bool.Decides.{nat_tests}
use Rattle.event_places.specs.Places.{handler_place, is_ring}
use Rattle.fram_board.specs.alp_words.declared.Width.{Width}
use Rattle.fram_board.specs.alp_words.declared.Width.TheVariants.{Word, Byte}
use Rattle.fram_board.specs.msp_isa.declared.instructions.Instr.{Instr}
use Rattle.fram_board.specs.msp_cycles.Cycles.{cycles_of}
use Rattle.fram_board.specs.msp_step.declared.bus.Refused.{Refused}
use Rattle.fram_board.specs.msp_step.declared.bus.Refused.TheVariants as refused
use Rattle.fram_board.specs.msp_step.Registers.{Registers}
use Rattle.fram_board.specs.msp_step.Access.{Access, Completed, Faulted}
use Rattle.fram_board.specs.msp_step.Effect.{Written}
use Rattle.fram_board.specs.msp_step.Step.{effect, stop_of}
use Rattle.fram_board.specs.Bus.{is_ram, is_memory, is_word, byte_of, with_byte, sensor_port, number_port, data_port}
use Rattle.fram_board.specs.Effects.{Effect, Store, Outside, Offered}
use Rattle.step_laws.specs.Alike.{AlikeUnless, ReadAlike, AnswerAlikeUnless, WrittenAlike}
use Rattle.step_laws.proofs.Interface.{effect_alike}
use Rattle.machine_effects.specs.World.{put}
use Rattle.machine_effects.specs.Inputs.{Look, Inputs, first_look, other_looks, look_effects}
use Rattle.machine_effects.specs.Going.{Goes, Stops, step_behind}
use Rattle.machine_effects.specs.Machine.{MachineBus, MachineBoard, MachineOutcome, machine_bus, word_in, word_address, is_readable, ring_read}
use Rattle.machine_effects.specs.Machine.{word_read, machine_read}
use Rattle.machine_effects.specs.Machine.{first_reading, reading_taken, machine_after_read, machine_stored, word_written, machine_port_written, machine_written}
use Rattle.machine_effects.specs.Machine.{machine_opened_seeing, machine_closed, machine_outcome, machine_executed_seeing, machine_executed}
use Rattle.machine_effects.specs.Machine.{looks_there, executed_looking}
use Rattle.machine_effects.specs.View.{IsFault, IsBusFault}
use Rattle.machine_effects.specs.Laws.{IsSameFrom, AreSameFrom, MachineIsBlind}
use Rattle.machine_effects.proofs.Alike.{IsRefused}

-- the same bus with this memory
abbrev holding : (ℕ → ℕ) → (ℕ → Option ℕ) → MachineBus → MachineBus
holding fram ram s = record s { fram = fram; ram = ram }

-- memory that is the same where a program may read, of which less may be known
record IsSameMemory (floor : ℕ) (f fram : ℕ → ℕ) (g ram : ℕ → Option ℕ) : Type 0 where
  in_fram : (a : ℕ) → a < handler_place → f a ≡ fram a
  in_ram : (a w : ℕ) → floor ≤ a → a % 2 ≡ 0 → g a ≡ Some w → ram a ≡ Some w

-- a bus that differs from another in memory alone, where a program may not read: in RAM, below this address or where its word isn't known
pub record IsBlindTo (floor : ℕ) (s t : MachineBus) : Type 0 where
  fram : ℕ → ℕ
  ram : ℕ → Option ℕ
  is : t ≡ holding fram ram s
  at : floor ≤ s.floor
  same : IsSameMemory floor fram s.fram ram s.ram

put_same_at : (b : Bool) (v x y : ℕ) → x ≡ y → (if b then v else x) ≡ (if b then v else y)
put_same_at true v x y e = refl
put_same_at false v x y e = e

put_known_at : (b : Bool) (v x y : Option ℕ) (w : ℕ) → (x ≡ Some w → y ≡ Some w) → (if b then v else x) ≡ Some w → (if b then v else y) ≡ Some w
put_known_at true v x y w e h = h
put_known_at false v x y w e h = e h

-- a word that is known
record IsKnown (o : Option ℕ) : Type 0 where
  word : ℕ
  is : o ≡ Some word

known_there : (o : Option ℕ) → is_some o ≡ true → IsKnown o
known_there (Some w) e = record { word = w; is = refl }
known_there None e = absurd cc

-- RAM is no ring
no_ring : (a : ℕ) → is_ram a ≡ true → is_ring a ≡ false
no_ring a e = grind (arith, nat_tests)

module _ (floor : ℕ) (s : MachineBus) (f : ℕ → ℕ) (g : ℕ → Option ℕ) (at : floor ≤ s.floor)
    (same : IsSameMemory floor f s.fram g s.ram) where
  abbrev t : MachineBus
  t = holding f g s

  -- what is readable on the second is so on the first, and the same
  record IsReadAlike (a : ℕ) : Type 0 where
    readable : is_readable s a ≡ true
    word : word_in f g a ≡ word_in s.fram s.ram a

  readable_on : (b : Bool) (a : ℕ) → is_ram a ≡ b
      → (if b then nat_le s.floor (word_address a) && is_some (g (word_address a)) else nat_lt a handler_place) ≡ true → IsReadAlike a
  readable_on true a is e =
      let x = word_address a in
      let both = and_parts (nat_le s.floor x) (is_some (g x)) e in
      let l = leb-true s.floor x both.0 in
      let here = known_there (g x) both.1 in
      let there : s.ram x ≡ Some here.word = same.in_ram x here.word (omega (arith, at, l)) (omega arith) here.is in
      let one : g x ≡ s.ram x = here.is ∙ sym there in
      record {
        readable = ap (λ b. cond b (nat_le s.floor x && is_some (s.ram x)) (nat_lt a handler_place)) is
            ∙ ap (λ o. nat_le s.floor x && is_some o) (sym one) ∙ e;
        word = ap (λ b. cond b (unwrap_or (g x) 0) (f x)) is ∙ ap (λ o. unwrap_or o 0) one
            ∙ sym (ap (λ b. cond b (unwrap_or (s.ram x) 0) (s.fram x)) is);
      }
  readable_on false a is e =
      let x = word_address a in
      let l = ltb-true a handler_place e in
      record {
        readable = ap (λ b. cond b (nat_le s.floor x && is_some (s.ram x)) (nat_lt a handler_place)) is ∙ e;
        word = ap (λ b. cond b (unwrap_or (g x) 0) (f x)) is ∙ same.in_fram x (omega (arith, l)) ∙ sym (ap (λ b. cond b (unwrap_or (s.ram x) 0) (s.fram x)) is);
      }

  readable_alike : (a : ℕ) → is_readable t a ≡ true → IsReadAlike a
  readable_alike a e = readable_on (is_ram a) a refl e

  -- a read that the second doesn't serve from memory
  unread_on : (b c : Bool) (a : ℕ) → is_ram a ≡ b → (if b then nat_le s.floor (word_address a) && is_some (s.ram (word_address a))
      else nat_lt a handler_place) ≡ c
      → (if b then nat_le s.floor (word_address a) && is_some (g (word_address a)) else nat_lt a handler_place) ≡ false
      → ReadAlike IsRefused a (if c then Ok (word_in s.fram s.ram a) else ring_read s.ring a) (ring_read s.ring a)
  unread_on true c a is e h = inr (refused.Bus, none s.ring, refl)
    where
      none : (ring : Option Look) → ring_read ring a ≡ Err refused.Bus
      none None = refl
      none (Some look) = ap (λ b. cond b (Ok (look a)) (Err refused.Bus)) (no_ring a is)
  unread_on false true a is e h = absurd (let no : true ≡ false = sym e ∙ h in cc)
  unread_on false false a is e h = inl refl

  word_by : (b : Bool) (a : ℕ) → is_readable t a ≡ b
      → ReadAlike IsRefused a (word_read s a) (if b then Ok (word_in f g a) else ring_read s.ring a)
  word_by true a e =
      let k = readable_alike a e in
      inl (ap (λ b. cond b (Ok (word_in s.fram s.ram a)) (ring_read s.ring a)) k.readable ∙ ap (λ v. Ok v) (sym k.word))
  word_by false a e = unread_on (is_ram a) (is_readable s a) a refl refl e

  byte_by : (b c : Bool) (a : ℕ) → is_readable t a ≡ c
      → ReadAlike IsRefused a (if b && is_readable s a then Ok (byte_of (word_in s.fram s.ram a) a) else Err refused.Bus)
      (if b && c then Ok (byte_of (word_in f g a) a) else Err refused.Bus)
  byte_by true true a e =
      let k = readable_alike a e in
      inl (ap (λ b. cond b (Ok (byte_of (word_in s.fram s.ram a) a)) (Err refused.Bus)) k.readable ∙ ap (λ v. Ok (byte_of v a)) (sym k.word))
  byte_by true false a e = inr (refused.Bus, refl, refl)
  byte_by false c a e = inl refl

  -- where a test holds, and else the same
  alike_if : (b : Bool) (a : ℕ) (x y z : Result ℕ Refused) → ReadAlike IsRefused a x y → ReadAlike IsRefused a (if b then x else z) (if b then y else z)
  alike_if true a x y z h = h
  alike_if false a x y z h = inl refl

  reads_same : (a : ℕ) (w : Width) → ReadAlike IsRefused a (machine_read s a w) (machine_read t a w)
  reads_same a Word = alike_if (is_word a) a (word_read s a) (word_read t a) _ (word_by (is_readable t a) a refl)
  reads_same a Byte = byte_by (is_memory a) (is_readable t a) a refl

  taken_blind : (ws : List ℕ) → IsBlindTo floor (reading_taken ws s) (reading_taken ws t)
  taken_blind [] = record { fram = f; ram = g; is = refl; at = at; same = same }
  taken_blind (w ∷ ws) = record { fram = f; ram = g; is = refl; at = at; same = record { in_fram = same.in_fram; in_ram = same.in_ram } }

  taken_if : (b : Bool) → IsBlindTo floor (if b then reading_taken s.inputs.readings s else s) (if b then reading_taken s.inputs.readings t else t)
  taken_if true = taken_blind s.inputs.readings
  taken_if false = record { fram = f; ram = g; is = refl; at = at; same = same }

  after_blind : (a : ℕ) (w : Width) → IsBlindTo floor (machine_after_read s a w) (machine_after_read t a w)
  after_blind a Word = taken_if (a == sensor_port)
  after_blind a Byte = record { fram = f; ram = g; is = refl; at = at; same = same }

  stored_if : (b : Bool) (a v : ℕ) (log : List Effect) → IsBlindTo floor
      (if b then record s { ram = put s.ram (word_address a) (Some v) } else record s { fram = put s.fram (word_address a) v; log = log })
      (if b then record t { ram = put g (word_address a) (Some v) } else record t { fram = put f (word_address a) v; log = log })
  stored_if true a v log = record {
    fram = f;
    ram = put g (word_address a) (Some v);
    is = refl;
    at = at;
    same = record { in_fram = same.in_fram; in_ram = λ x w h even. put_known_at (x == word_address a) (Some v) (g x) (s.ram x) w (same.in_ram x w h even) };
  }
  stored_if false a v log = record {
    fram = put f (word_address a) v;
    ram = g;
    is = refl;
    at = at;
    same = record { in_fram = λ x h. put_same_at (x == word_address a) v (f x) (s.fram x) (same.in_fram x h); in_ram = same.in_ram };
  }

  abbrev BothWrite : Option MachineBus → Option MachineBus → Type 0
  BothWrite x y = WrittenAlike (refused.Bus ≡ refused.Bus) (IsBlindTo floor) x y

  served_if : (b : Bool) (x y : MachineBus) → (b ≡ true → IsBlindTo floor x y) → BothWrite (if b then Some x else None) (if b then Some y else None)
  served_if true x y h = h refl
  served_if false x y h = tt

  port_if : (b c : Bool) (v : ℕ) (log : List Effect) → BothWrite
      (if b then Some (record s { outnum = v }) else if c then Some (record s { log = log }) else None)
      (if b then Some (record t { outnum = v }) else if c then Some (record t { log = log }) else None)
  port_if true c v log = record { fram = f; ram = g; is = refl; at = at; same = record { in_fram = same.in_fram; in_ram = same.in_ram } }
  port_if false true v log = record { fram = f; ram = g; is = refl; at = at; same = record { in_fram = same.in_fram; in_ram = same.in_ram } }
  port_if false false v log = tt

  one_if : (b : Bool) (x y z u : Option MachineBus) → BothWrite x y → BothWrite z u → BothWrite (if b then x else z) (if b then y else u)
  one_if true x y z u h k = h
  one_if false x y z u h k = k

  writes_blind : (a : ℕ) (w : Width) (v : ℕ) → BothWrite (machine_written s a w v) (machine_written t a w v)
  writes_blind a Word v =
      one_if (is_word a) (word_written s a v) (word_written t a v) (machine_port_written s a v) (machine_port_written t a v)
      (served_if (nat_lt a handler_place) (machine_stored s a v) (machine_stored t a v)
      (λ l. stored_if (is_ram a) a v (s.log ++ Store (word_address a) v ∷ [])))
      (port_if (a == number_port) (a == data_port) v (s.log ++ Outside (Offered s.outnum v) ∷ []))
  writes_blind a Byte v = byte_written (is_memory a) (is_readable t a) refl
    where
      x : ℕ
      x = with_byte (word_in s.fram s.ram a) a v

      refused_too : (b : Bool) (y : MachineBus) → BothWrite (if b then Some y else None) None
      refused_too true y = refl
      refused_too false y = tt

      byte_written : (b c : Bool) → is_readable t a ≡ c → BothWrite (if b && is_readable s a then Some (machine_stored s a x) else None)
          (if b && c then Some (machine_stored t a (with_byte (word_in f g a) a v)) else None)
      byte_written true true e =
          let k = readable_alike a e in
          subst (λ q. BothWrite (if q then Some (machine_stored s a x) else None) (Some (machine_stored t a (with_byte (word_in f g a) a v)))) (sym k.readable)
          (subst (λ n. IsBlindTo floor (machine_stored s a x) (machine_stored t a (with_byte n a v))) (sym k.word)
          (stored_if (is_ram a) a x (s.log ++ Store (word_address a) x ∷ [])))
      byte_written true false e = refused_too (is_readable s a) (machine_stored s a x)
      byte_written false c e = tt

-- two such buses answer alike, or the second refuses
pub blind_answers : (floor : ℕ) → AnswerAlikeUnless IsRefused machine_bus machine_bus (IsBlindTo floor)
blind_answers floor = record {
  reads = λ s t a w h. subst (λ u. ReadAlike IsRefused a (machine_read s a w) (machine_read u a w)) (sym h.is)
      (reads_same floor s h.fram h.ram h.at h.same a w);
  after = λ s t a w v h e. subst (λ u. IsBlindTo floor (machine_after_read s a w) (machine_after_read u a w)) (sym h.is)
      (after_blind floor s h.fram h.ram h.at h.same a w);
  writes = λ s t a w v h. subst (λ u. WrittenAlike (refused.Bus ≡ refused.Bus) (IsBlindTo floor) (machine_written s a w v) (machine_written u a w v)) (sym h.is)
      (writes_blind floor s h.fram h.ram h.at h.same a w v);
}

-- machines behind two such buses
closed_same : (floor : ℕ) (r q : Registers) (s t : MachineBus) → q ≡ r → IsBlindTo floor s t → IsSameFrom floor (machine_closed r s) (machine_closed q t)
closed_same floor r q s t e h = record {
  registers = e;
  fram = λ a l. ap (λ u. u.fram a) h.is ∙ h.same.in_fram a l;
  ram = λ a w l even e. h.same.in_ram a w l even (ap (λ u. u.ram a) (sym h.is) ∙ e);
  inputs = ap (λ u. u.inputs) h.is;
  outnum = ap (λ u. u.outnum) h.is;
}

-- what becomes of two such outcomes
abbrev SameOrFault : ℕ → MachineOutcome → MachineOutcome → Type 0
SameOrFault floor o p = IsBusFault p ⊎ AreSameFrom floor o p

refusal_faults : (pc a : ℕ) (e : Refused) → e ≡ refused.Bus → IsFault (stop_of pc e a)
refusal_faults pc a e h = subst (λ x. IsFault (stop_of pc x a)) (sym h) tt

outcomes_same : (floor pc c : ℕ) (m n : Access MachineBus (Registers × Option Written)) → AlikeUnless IsRefused (IsBlindTo floor) m n
    → SameOrFault floor (machine_outcome pc c m) (machine_outcome pc c n)
outcomes_same floor pc c (Completed x s) (Completed y t) h =
    inr (ap (λ u. u.log) h.1.is, refl, closed_same floor x.0 y.0 s t (ap (λ z. z.0) (sym h.0)) h.1)
outcomes_same floor pc c (Faulted e a s) (Faulted f b t) (inl h) = inl (refusal_faults pc b f h)
outcomes_same floor pc c (Faulted e a s) (Faulted f b t) (inr h) =
    inr (ap (λ u. u.log) h.2.is, refl, ap₂ (λ r x. stop_of pc r x) (sym h.0) (sym h.1))
outcomes_same floor pc c (Completed x s) (Faulted f b t) h = inl (refusal_faults pc b f h)
outcomes_same floor pc c (Faulted e a s) (Completed y t) h = absurd h

-- such machines behind a look
abbrev pub with_others : List Look → MachineBoard → MachineBoard
with_others looks s = record s { inputs = record s.inputs { looks = other_looks looks } }

pub others_same : (floor : ℕ) (looks : List Look) (s t : MachineBoard) → IsSameFrom floor s t
    → IsSameFrom floor (with_others looks s) (with_others looks t)
others_same floor looks s t h = record {
  registers = h.registers;
  fram = h.fram;
  ram = h.ram;
  inputs = ap (λ (j : Inputs). record j { looks = other_looks looks }) h.inputs;
  outnum = h.outnum;
}

-- the bus of such machines as an instruction begins that sees the same of the ring
pub opened_blind : (floor : ℕ) (ring : Option Look) (s t : MachineBoard) → floor ≤ s.registers 1 → IsSameFrom floor s t
    → IsBlindTo floor (machine_opened_seeing ring s) (machine_opened_seeing ring (record s { fram = t.fram; ram = t.ram }))
opened_blind floor ring s t low h =
    record { fram = t.fram; ram = t.ram; is = refl; at = low; same = record { in_fram = h.fram; in_ram = h.ram } }

-- all that they differ in is memory
pub same_but_memory : (floor : ℕ) (s t : MachineBoard) → IsSameFrom floor s t → t ≡ record s { fram = t.fram; ram = t.ram }
same_but_memory floor s t h = λ k. record { registers = h.registers k; fram = t.fram; ram = t.ram; inputs = h.inputs k; outnum = h.outnum k }

module _ (floor : ℕ) (i : Instr) where
  -- an instruction that sees the same of the ring
  seeing_same : (ring : Option Look) (s t : MachineBoard) → floor ≤ s.registers 1 → IsSameFrom floor s t
      → SameOrFault floor (machine_executed_seeing ring s i) (machine_executed_seeing ring t i)
  seeing_same ring s t low h =
      let x = machine_opened_seeing ring s in
      let y = machine_opened_seeing ring (record s { fram = t.fram; ram = t.ram }) in
      let P : MachineBoard → Type 0 = λ u. SameOrFault floor (machine_executed_seeing ring s i) (machine_executed_seeing ring u i) in
      subst P (sym (same_but_memory floor s t h))
      (outcomes_same floor (s.registers 0) (cycles_of i) (effect machine_bus i s.registers x) (effect machine_bus i s.registers y)
      (effect_alike MachineBus MachineBus machine_bus machine_bus IsRefused (IsBlindTo floor) (blind_answers floor) i s.registers x y
      (opened_blind floor ring s t low h)))

  -- behind the same look
  same_behind : (es : List Effect) (o p : MachineOutcome) → SameOrFault floor o p → SameOrFault floor (step_behind es o) (step_behind es p)
  same_behind es (Goes fs c s) (Goes gs d t) (inr h) = inr (ap (λ l. es ++ l) h.0, h.1, h.2)
  same_behind es (Stops fs price e) (Stops gs paid f) (inr h) = inr (ap (λ l. es ++ l) h.0, h.1, h.2)
  same_behind es (Goes fs c s) (Stops gs paid f) (inr h) = absurd h
  same_behind es (Stops fs price e) (Goes gs d t) (inr h) = absurd h
  same_behind es o (Stops gs paid f) (inl h) = inl h
  same_behind es o (Goes gs d t) (inl h) = absurd h

  looking_same : (looks : List Look) (s t : MachineBoard) → floor ≤ s.registers 1 → IsSameFrom floor s t
      → SameOrFault floor (executed_looking looks s i) (executed_looking looks t i)
  looking_same looks s t low h =
      same_behind (look_effects looks) _ _
      (seeing_same (Some (first_look looks)) (with_others looks s) (with_others looks t) low (others_same floor looks s t h))

  same_by : (c : Bool) (s t : MachineBoard) → floor ≤ s.registers 1 → IsSameFrom floor s t → SameOrFault floor
      (if c then executed_looking s.inputs.looks s i else machine_executed s i) (if c then executed_looking t.inputs.looks t i else machine_executed t i)
  same_by true s t low h =
      subst (λ (j : Inputs). SameOrFault floor (executed_looking s.inputs.looks s i) (executed_looking j.looks t i)) (sym h.inputs)
      (looking_same s.inputs.looks s t low h)
  same_by false s t low h = seeing_same None s t low h

pub machine_is_blind : MachineIsBlind
machine_is_blind floor i s t low h = same_by floor i (looks_there i) s t low h
