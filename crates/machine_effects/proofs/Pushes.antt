-- A push, or a call, writes the same word below SP on machines that a program can't tell apart.
use Rattle.std.proofs.Common.{◌≡◌, ◌==◌, ◌&&◌, ◌≤◌, ◌*◌, ◌/◌, ◌%◌, if◌then◌else◌, nat_lt, eqb-true, arith, ℕ, refl, sym, ◌∙◌, ap, subst, Bool, true, false}
use Rattle.std.proofs.Common.{List, [], ◌∷◌, ◌++◌, length, Option, Some, None, inl, inr}
use Rattle.std.proofs.lemmas.Bool.{and_parts}
use Rattle.std.proofs.lemmas.Bool.Decides.{nat_tests}
use Rattle.event_places.specs.Places.{handler_place}
use Rattle.fram_board.specs.alp_words.declared.Width.TheVariants.{Word, Byte}
use Rattle.fram_board.specs.msp_isa.declared.instructions.OneOp.{OneOp}
use Rattle.fram_board.specs.msp_isa.declared.instructions.OneOp.TheVariants as one
use Rattle.fram_board.specs.msp_isa.declared.instructions.Instr.{Instr}
use Rattle.fram_board.specs.msp_isa.declared.instructions.Instr.TheVariants as instr
use Rattle.fram_board.specs.msp_isa.Encoding.{source_row}
use Rattle.fram_board.specs.msp_cycles.Cycles.{cycles_of}
use Rattle.fram_board.specs.msp_step.Registers.{Registers, with_register}
use Rattle.fram_board.specs.msp_step.Access.{Access, Completed, Faulted, then_do, write_at, write_answer}
use Rattle.fram_board.specs.msp_step.Effect.{Written, word_sum, source, below_stack, pushed, called}
use Rattle.fram_board.specs.msp_step.Step.{effect}
use Rattle.fram_board.specs.Bus.{is_ram, is_memory, is_word, number_port, data_port}
use Rattle.fram_board.specs.Effects.{Effect, Store, Outside, Offered}
use Rattle.step_laws.specs.Alike.{AlikeUnless}
use Rattle.step_laws.proofs.Interface.{effect_alike}
use Rattle.machine_effects.specs.World.{put}
use Rattle.machine_effects.specs.Inputs.{Look, Inputs, first_look, look_effects}
use Rattle.machine_effects.specs.Going.{Goes, Stops, step_behind}
use Rattle.machine_effects.specs.Machine.{MachineBus, MachineBoard, MachineOutcome, machine_bus, word_address, machine_stored, word_written}
use Rattle.machine_effects.specs.Machine.{machine_port_written}
use Rattle.machine_effects.specs.Machine.{machine_written, machine_opened_seeing, machine_outcome, machine_executed_seeing, machine_executed, executed_looking}
use Rattle.machine_effects.specs.Machine.{looks_there, pushes, IsRam}
use Rattle.machine_effects.specs.Laws.{IsSameFrom, HaveSameTop, PushesAlike}
use Rattle.machine_effects.proofs.Worlds.{put_at}
use Rattle.machine_effects.proofs.Alike.{IsRefused}
use Rattle.machine_effects.proofs.Blind.{IsBlindTo, blind_answers, opened_blind, same_but_memory, with_others, others_same}

-- a word was written to where SP stands now
record TopIs (z : Registers × Option Written) (u : MachineBus) : Type 0 where
  word : ℕ
  written : z.1 ≡ Some (z.0 1, word)
  there : u.ram (z.0 1) ≡ Some word

-- an access that leaves it so, where SP stands in RAM
abbrev IsPush : Access MachineBus (Registers × Option Written) → Type 0
IsPush (Completed z u) = IsRam (z.0 1) → TopIs z u
IsPush (Faulted e a u) = Unit {0}

answered : (o : Option MachineBus) (a : ℕ) (t : MachineBus) (z : Registers × Option Written)
    → ((u : MachineBus) → o ≡ Some u → IsRam (z.0 1) → TopIs z u) → IsPush (write_answer o a t z)
answered (Some u) a t z f = f u refl
answered None a t z f = tt

in_ram : (a : ℕ) → IsRam (a / 2 * 2) → is_ram a ≡ true
in_ram a h = let low = h.low in let high = h.high in grind (arith, nat_tests)

-- a port is none of RAM
no_port : (b c : Bool) (x y u : MachineBus) → (b ≡ true → ⊥) → (c ≡ true → ⊥) → (if b then Some x else if c then Some y else None) ≡ Some u → ⊥
no_port true c x y u f g e = f refl
no_port false true x y u f g e = g refl
no_port false false x y u f g e = absurd cc

served_word : (b : Bool) (x u : MachineBus) → (if b then Some x else None) ≡ Some u → x ≡ u
served_word true x u e = cc
served_word false x u e = absurd cc

module _ (t : MachineBus) (r : Registers) (v : ℕ) where
  abbrev a : ℕ
  a = below_stack r

  -- behind it SP is there
  module _ (q : Registers) (top : q 1 ≡ a / 2 * 2) where
    abbrev z : Registers × Option Written
    z = (q, Some (a, v))

    stored_at : (u : MachineBus) → is_word a ≡ true → word_written t a v ≡ Some u → IsRam (a / 2 * 2) → TopIs z u
    stored_at u is e ram =
        let even : a % 2 ≡ 0 = eqb-true (a % 2) 0 (and_parts (a % 2 == 0) (is_memory a) is).0 in
        let same : a / 2 * 2 ≡ a = omega (arith, even) in
        let at : a / 2 * 2 ≡ word_address a = omega (arith, even) in
        let stored : machine_stored t a v ≡ record t { ram = put t.ram (word_address a) (Some v) } =
        ap (λ b. if b then record t { ram = put t.ram (word_address a) (Some v) } else record t
        { fram = put t.fram (word_address a) v; log = t.log ++ Store (word_address a) v ∷ [] }) (in_ram a ram) in
        let is : record t { ram = put t.ram (word_address a) (Some v) } ≡ u = sym stored ∙ served_word (nat_lt a handler_place) (machine_stored t a v) u e in
        record {
          word = v;
          written = ap (λ n. Some (n, v)) (sym same ∙ sym top);
          there = ap u.ram top ∙ ap (λ (b : MachineBus). b.ram (a / 2 * 2)) (sym is) ∙ put_at t.ram (word_address a) (Some v) (a / 2 * 2) at;
        }

    written_at : (b : Bool) (u : MachineBus) → is_word a ≡ b → (if b then word_written t a v else machine_port_written t a v) ≡ Some u
        → IsRam (a / 2 * 2) → TopIs z u
    written_at true u is e ram = stored_at u is e ram
    written_at false u is e ram =
        let low = ram.low in
        absurd (no_port (a == number_port) (a == data_port) (record t { outnum = v }) (record t { log = t.log ++ Outside (Offered t.outnum v) ∷ [] }) u
        (λ p. let at = eqb-true a number_port p in omega (arith, low, at)) (λ p. let at = eqb-true a data_port p in omega (arith, low, at)) e)

    stored_is : IsPush (write_at machine_bus a Word v z t)
    stored_is = answered (machine_written t a Word v) a t z (λ u e ram. written_at (is_word a) u refl e (subst IsRam top ram))

pushed_is : (m : Access MachineBus (ℕ × Registers)) (n : ℕ) → IsPush (then_do m (λ y t. pushed machine_bus Word y.0 (with_register y.1 0 n) t))
pushed_is (Completed y t) n =
    let r = with_register y.1 0 n in stored_is t r y.0 (with_register r 1 (below_stack r)) refl
pushed_is (Faulted e a t) n = tt

called_is : (m : Access MachineBus (ℕ × Registers)) (n : ℕ) → IsPush (then_do m (λ y t. called machine_bus y.0 (with_register y.1 0 n) t))
called_is (Completed y t) n =
    let r = with_register y.1 0 n in stored_is t r (r 0) (with_register (with_register r 1 (below_stack r)) 0 y.0) refl
called_is (Faulted e a t) n = tt

-- behind the source, with PC behind the instruction
abbrev first_word : Registers → ℕ
first_word r = word_sum (r 0) 2

one_is : (o : OneOp) (r : Registers) (s : MachineBus) → pushes (instr.One o) ≡ true → IsPush (effect machine_bus (instr.One o) r s)
unfolding effect
one_is (one.Push Word x) r s p =
    pushed_is (source machine_bus (with_register r 0 (first_word r)) Word x s) (word_sum (first_word r) (2 * length (source_row x).extension))
one_is (one.Call x) r s p =
    called_is (source machine_bus (with_register r 0 (first_word r)) Word x s) (word_sum (first_word r) (2 * length (source_row x).extension))
one_is (one.Push Byte x) r s p = absurd cc
one_is (one.Rrc w x) r s p = absurd cc
one_is (one.Rra w x) r s p = absurd cc
one_is (one.Swpb x) r s p = absurd cc
one_is (one.Sxt x) r s p = absurd cc

push_is : (i : Instr) (r : Registers) (s : MachineBus) → pushes i ≡ true → IsPush (effect machine_bus i r s)
push_is (instr.Two op w x d) r s p = absurd cc
push_is (instr.One o) r s p = one_is o r s p
push_is (instr.Jump c o) r s p = absurd cc
push_is instr.Reti r s p = absurd cc

abbrev word_of : Option Written → ℕ
word_of (Some z) = z.1
word_of None = 0

same_word : (p q v w : ℕ) (x y : Option Written) → x ≡ y → x ≡ Some (p, v) → y ≡ Some (q, w) → w ≡ v
same_word p q v w x y e f g = ap word_of (sym g ∙ sym e ∙ f)

tops_same : (floor pc c : ℕ) (m n : Access MachineBus (Registers × Option Written)) → AlikeUnless IsRefused (IsBlindTo floor) m n → IsPush m → IsPush n
    → HaveSameTop (machine_outcome pc c m) (machine_outcome pc c n)
tops_same floor pc c (Completed x s) (Completed y t) h f g =
    λ ram.
    let at : x.0 1 ≡ y.0 1 = ap (λ z. z.0 1) h.0 in
    let first = f ram in
    let second = g (subst IsRam at ram) in
    let words = same_word (x.0 1) (y.0 1) first.word second.word x.1 y.1 (ap (λ z. z.1) h.0) first.written second.written in
    ap t.ram at ∙ second.there ∙ ap (λ w. Some w) words ∙ sym first.there
tops_same floor pc c (Faulted e a s) (Faulted f b t) h k l = tt
tops_same floor pc c (Completed x s) (Faulted f b t) h k l = tt
tops_same floor pc c (Faulted e a s) (Completed y t) h k l = tt

module _ (floor : ℕ) (push : Instr) (is : pushes push ≡ true) where
  seeing_top : (ring : Option Look) (s t : MachineBoard) → floor ≤ s.registers 1 → IsSameFrom floor s t
      → HaveSameTop (machine_executed_seeing ring s push) (machine_executed_seeing ring t push)
  seeing_top ring s t low h =
      let k = machine_opened_seeing ring s in
      let l = machine_opened_seeing ring (record s { fram = t.fram; ram = t.ram }) in
      let P : MachineBoard → Type 0 = λ u. HaveSameTop (machine_executed_seeing ring s push) (machine_executed_seeing ring u push) in
      subst P (sym (same_but_memory floor s t h))
      (tops_same floor (s.registers 0) (cycles_of push) (effect machine_bus push s.registers k) (effect machine_bus push s.registers l)
      (effect_alike MachineBus MachineBus machine_bus machine_bus IsRefused (IsBlindTo floor) (blind_answers floor) push s.registers k l
      (opened_blind floor ring s t low h)) (push_is push s.registers k is) (push_is push s.registers l is))

  top_behind : (es : List Effect) (o p : MachineOutcome) → HaveSameTop o p → HaveSameTop (step_behind es o) (step_behind es p)
  top_behind es (Goes fs c s) (Goes gs d t) h = h
  top_behind es (Stops fs price e) (Stops gs paid f) h = tt
  top_behind es (Goes fs c s) (Stops gs paid f) h = tt
  top_behind es (Stops fs price e) (Goes gs d t) h = tt

  looking_top : (looks : List Look) (s t : MachineBoard) → floor ≤ s.registers 1 → IsSameFrom floor s t
      → HaveSameTop (executed_looking looks s push) (executed_looking looks t push)
  looking_top looks s t low h =
      top_behind (look_effects looks) _ _
      (seeing_top (Some (first_look looks)) (with_others looks s) (with_others looks t) low (others_same floor looks s t h))

  top_by : (c : Bool) (s t : MachineBoard) → floor ≤ s.registers 1 → IsSameFrom floor s t → HaveSameTop
      (if c then executed_looking s.inputs.looks s push else machine_executed s push)
      (if c then executed_looking t.inputs.looks t push else machine_executed t push)
  top_by true s t low h =
      subst (λ (j : Inputs). HaveSameTop (executed_looking s.inputs.looks s push) (executed_looking j.looks t push)) (sym h.inputs)
      (looking_top s.inputs.looks s t low h)
  top_by false s t low h = seeing_top None s t low h

pub pushes_alike : PushesAlike
pushes_alike floor push s t is low h = top_by floor push is (looks_there push) s t low h
