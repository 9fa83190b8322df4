-- The handler's instructions, one after another: each leaves what the next one finds.
use Rattle.std.proofs.Common.{◌≡◌, ◌+◌, ◌-◌, ◌*◌, ◌/◌, ◌%◌, ◌≤◌, ◌<◌, ◌==◌, if◌then◌else◌, nat_le, arith, ℕ, refl, sym, ◌∙◌, ap, subst, Bool, true, false}
use Rattle.std.proofs.Common.{List, [], ◌∷◌, length, slice_index, slice_set, bit_and, Option, Some, None}
use Rattle.std.proofs.lemmas.Nat.{and_mask}
use Rattle.std.proofs.lemmas.Bool.{and_parts}
use Rattle.std.proofs.lemmas.Bool.Decides.{nat_tests}
use Rattle.msp_isa.specs.alp_words.declared.Width.TheVariants.{Word}
use Rattle.msp_isa.specs.alp_words.declared.Flags.{Flags}
use Rattle.msp_isa.specs.alp_words.Words.{bit, word_sum, word_difference, sum_of, difference_of, and_of}
use Rattle.msp_isa.specs.declared.instructions.Condition.TheVariants.{Equal}
use Rattle.fram_board.specs.msp_step.Registers.{Registers, registers_of, with_register, kept}
use Rattle.fram_board.specs.msp_step.Effect.{below_stack, flags_of, status_with, jump_effect, distance}
use Rattle.fram_board.specs.msp_step.Access.{Completed}
use Rattle.fram_board.specs.msp_step.Kept.{IsRegisters}
use Rattle.fram_board.specs.msp_step.Step.{effect}
use Rattle.fram_board.specs.image_text.ImageValue.{place_of}
use Rattle.fram_board.specs.Bus.{BusState, board_bus, is_ram, is_fram, is_word, ram_place, with_word}
use Rattle.fram_board.specs.declared.events.Heard.TheVariants.{Once}
use Rattle.fram_board.specs.Events.{EventLine, heard_again, is_full, port_word, port_read, port_behind, arising, arising_due, line_behind_step}
use Rattle.fram_board.specs.Board.{BoardValue, opened, closed, register_list, receiver_after}
use Rattle.fram_board.specs.Effects.{Store, store_at}
use Rattle.fram_board.proofs.Interface.{ram_not_fram}
use Rattle.machine_effects.specs.World.{put}
use Rattle.machine_effects.specs.Machine.{fram_of, ram_of, word_address}
use Rattle.machine_effects.proofs.Interface.{put_other, put_at, put_fram, fram_at as fram_word, index_small, bit_low}
use Rattle.event_places.specs.Places.{tail_place, head_place, ring_place, ring_slots, slot_place}
use Rattle.event_handler.specs.Handler.{Stage, SaveR4, SaveR5, TakeEvent, LoadHead, SubtractTail, CompareRoom, LeaveIfFull, LoadHeadAgain, CutToSlots}
use Rattle.event_handler.specs.Handler.{DoubleIndex, StoreWord, RaiseHead, RestoreR5, RestoreR4, Return, instruction_at}
use Rattle.event_handler.specs.Boundaries.{IsInterrupted, IsInHandler, KeepsTheRest, stack_of, event_of, head_of, tail_of, is_ring_full, with_event}
use Rattle.event_handler.specs.Boundaries.{with_head_raised, with_return, with_r4, with_r5, other_registers, effects_at, heard_at}
use Rattle.event_handler.specs.Laws.{GoesOn, HandlerGoesOn}
use Rattle.event_handler.proofs.Bus.{IsStackWord, stack_ram, stack_read, with_ram, ram_put, even_address}
use Rattle.event_handler.proofs.Instructions.{moved, flagged, pushed, popped, returned, saves_r4, saves_r5, takes_event, loads_head, subtracts_tail}
use Rattle.event_handler.proofs.Instructions.{compares_room, leaves_if_full, cuts_to_slots, doubles_index, stores_word, raises_head, restores_r5}
use Rattle.event_handler.proofs.Instructions.{restores_r4, returns}
use Rattle.event_handler.proofs.Step.{Served, goes_on, comes_back}

-- SP, and the words below it
pub record IsStack (sp : ℕ) : Type 0 where
  pub even : sp % 2 ≡ 0
  pub low : 0x1C20 ≤ sp
  pub high : sp ≤ 0x2400

pub stack_from : (from : BoardValue) → IsInterrupted from → IsStack (stack_of from)
stack_from from g = record { even = g.whole.registers.even_sp; low = g.low; high = g.high }

module _ (sp : ℕ) (q : IsStack sp) where
  pub word_below : (d : ℕ) → d % 2 ≡ 0 → 2 ≤ d → d ≤ 8 → IsStackWord (sp - d)
  word_below d even two few =
      let e = q.even in let l = q.low in let u = q.high in
      record { even = omega arith; low = omega arith; high = omega arith }

  pub pushed_to : (x d : ℕ) → x ≡ sp - d → d ≤ 6 → word_sum x 0xFFFE ≡ sp - (d + 2)
  pushed_to x d is few = let l = q.low in let u = q.high in omega arith

  pub popped_to : (x d : ℕ) → x ≡ sp - (d + 2) → d ≤ 6 → word_sum x 2 ≡ sp - d
  popped_to x d is few = let l = q.low in let u = q.high in omega arith

  pub kept_even : (x d : ℕ) → x ≡ sp - d → d % 2 ≡ 0 → d ≤ 8 → x / 2 * 2 ≡ sp - d
  kept_even x d is even few = let e = q.even in let l = q.low in omega arith

-- flags leave the control bits, and Z can be read back
control_bits : (c z n v sr : ℕ) → c < 2 → z < 2 → n < 2 → v < 2 → sr / 8 % 0x20 ≡ 0 → (c + 2 * z + 4 * n + sr / 8 % 0x20 * 8 + 0x100 * v) % 0x200 / 8 % 0x20 ≡ 0
control_bits c z n v sr a b d e h = omega arith

control_stays : (sr : ℕ) (f : Flags) → sr / 8 % 0x20 ≡ 0 → kept 2 (status_with sr f) / 8 % 0x20 ≡ 0
control_stays sr f h = control_bits (bit f.c) (bit f.z) (bit f.n) (bit f.v) sr (bit_low f.c) (bit_low f.z) (bit_low f.n) (bit_low f.v) h

zero_bit : (c z n v sr : ℕ) → c < 2 → z < 2 → n < 2 → v < 2 → sr / 8 % 0x20 ≡ 0 → (c + 2 * z + 4 * n + sr / 8 % 0x20 * 8 + 0x100 * v) % 0x200 / 2 % 2 ≡ z
zero_bit c z n v sr a b d e h = omega arith

bit_one : (b : Bool) → (bit b == 1) ≡ b
bit_one true = refl
bit_one false = refl

zero_back : (sr : ℕ) (f : Flags) → sr / 8 % 0x20 ≡ 0 → (flags_of (kept 2 (status_with sr f))).z ≡ f.z
zero_back sr f h =
    ap (λ n. n == 1) (zero_bit (bit f.c) (bit f.z) (bit f.n) (bit f.v) sr (bit_low f.c) (bit_low f.z) (bit_low f.n) (bit_low f.v) h) ∙ bit_one f.z

-- what the operations give
difference_is : (d t : ℕ) → t < 0x10000 → (difference_of Word d t true).0 ≡ word_difference d t
difference_is d t low = let e : d + (0xFFFF - t) + 1 ≡ d + (0x10000 - t) = omega arith in ap (λ n. n % 0x10000) e

compared : (d : ℕ) → d < 0x10000 → ((d + 65471 + 1) % 0x10000 == 0) ≡ (d == 64)
compared d low = grind (arith, nat_tests)

difference_small : (d t : ℕ) → word_difference d t < 0x10000
difference_small d t = omega arith

doubled : (d : ℕ) → d < 64 → (d + d + 0) % 0x10000 ≡ 2 * d
doubled d low = omega arith

slot_small : (d : ℕ) → d % 64 < 64
slot_small d = omega arith

slot_sum : (d : ℕ) → d < 64 → (2 * d + 0xFF70) % 0x10000 ≡ 0xFF70 + 2 * d
slot_sum d low = omega arith

-- the slots are words of FRAM, and no HEAD
slot_is_word : (d : ℕ) → is_word (slot_place d) ≡ true
slot_is_word d = grind (arith, nat_tests)

slot_no_ram : (d : ℕ) → is_ram (slot_place d) ≡ false
slot_no_ram d = grind (arith, nat_tests)

slot_is_fram : (d : ℕ) → is_fram (slot_place d) ≡ true
slot_is_fram d = grind (arith, nat_tests)

slot_even : (d : ℕ) → slot_place d % 2 ≡ 0
slot_even d = omega arith

head_no_slot : (d : ℕ) → head_place ≡ slot_place d → ⊥
head_no_slot d e = omega arith

-- a word that waits in the port stays there
either_port : (b : Bool) (p q : EventLine) (w : ℕ) → p.port ≡ Some w → q.port ≡ Some w → (if b then p else q).port ≡ Some w
either_port true p q w e f = e
either_port false p q w e f = f

due_stays : (es : List (ℕ × ℕ)) (q : EventLine) (w : ℕ) → q.port ≡ Some w → (arising_due es q).port ≡ Some w
due_stays [] q w e = e
due_stays (d ∷ es) q w e =
    either_port (nat_le d.0 q.made) (arising_due es (arising d.1 es q)) q w (due_stays es (arising d.1 es q) w (ap (port_behind d.1) e)) e

some_stays : (q : EventLine) (port : Option ℕ) → q.port ≡ port → is_full port ≡ true → (line_behind_step q).port ≡ port
some_stays q (Some w) e full = due_stays q.coming _ w e
some_stays q None e full = absurd cc

pub event_waits : (from : BoardValue) (q : EventLine) → IsInterrupted from → q.port ≡ from.line.port → (line_behind_step q).port ≡ from.line.port
event_waits from q g e = some_stays q from.line.port e (and_parts (is_full from.line.port) _ g.accepting).0

same_rest : (from b : BoardValue) (r : Registers) (t : BusState) → KeepsTheRest from b → t.readings ≡ b.readings → t.taken ≡ b.taken → t.outnum ≡ b.outnum
    → t.offered ≡ None → KeepsTheRest from (closed b r t)
same_rest from b r t k readings taken outnum off = record {
  readings = readings ∙ k.readings;
  taken = taken ∙ k.taken;
  outnum = outnum ∙ k.outnum;
  receiver = ap (λ o. receiver_after t.outnum o b.receiver) off ∙ k.receiver;
}

module _ (from b : BoardValue) (g : IsInterrupted from) where
  abbrev file : Registers
  file = registers_of b.cpu

  -- an instruction that leaves memory
  quiet : (at : Stage) → effects_at from at ≡ [] → (r : Registers) (t : BusState)
      → effect board_bus (instruction_at at) file (opened b) ≡ Completed (r, None) t → t.taken ≡ b.taken → t.offered ≡ None
      → t.line.heard ≡ heard_at from at → Served from b at r None t
  quiet at none r t by taken off heard = record { by = by; effects = sym none; taken = taken; offered = off; heard = heard }

  plain_rest : (at : Stage) (r : Registers) → IsInHandler from at b → KeepsTheRest from (closed b r (opened b))
  plain_rest at r h = same_rest from b r (opened b) h.rest refl refl refl refl

  -- PUSH
  push_ram : (f : ℕ → ℕ) (d v : ℕ) → IsStackWord (below_stack file) → below_stack file ≡ stack_of from - d → length b.ram ≡ 1024 → ram_of b.ram ≡ f
      → (w : ℕ) → v ≡ w → ram_of (slice_set b.ram (ram_place (below_stack file)) v) ≡ put f (stack_of from - d) w
  push_ram f d v word is len same w value =
      ram_put b.ram (below_stack file) v len word
      ∙ ap (λ m. put m (below_stack file) v) same
      ∙ ap (λ a. put f a v) is
      ∙ ap (λ x. put f (stack_of from - d) x) value

  push_effects : IsStackWord (below_stack file) → (f : List ℕ) → store_at (Some (below_stack file)) f ≡ []
  push_effects word f = ap (λ x. if x then Store (below_stack file - below_stack file % 2) (slice_index f (place_of (below_stack file))) ∷ [] else [])
      (ram_not_fram (below_stack file) (stack_ram (below_stack file) word))

  save_r4 : IsInHandler from SaveR4 b → GoesOn from b SaveR4
  save_r4 h =
      let q = stack_from from g in
      let is : below_stack file ≡ stack_of from - 6 = pushed_to (stack_of from) q (file 1) 4 h.sp (omega arith) in
      let word = subst IsStackWord (sym is) (word_below (stack_of from) q 6 refl (omega arith) (omega arith)) in
      let t = with_ram (opened b) (below_stack file) (file 4) in
      goes_on from b SaveR4 SaveR5 g h refl (pushed file) (Some (below_stack file, file 4)) t
      (record { by = saves_r4 file (opened b) word; effects = push_effects word b.fram; taken = refl; offered = refl; heard = h.heard })
      (record {
        pc = ap (λ p. kept 0 (word_sum (word_sum p 2) 0)) h.pc;
        sp = kept_even (stack_of from) q (below_stack file) 6 is refl (omega arith);
        control = h.control;
        r4 = h.r4;
        r5 = h.r5;
        others = h.others;
        fram = h.fram;
        ram = push_ram (with_return from) 6 (file 4) word is h.whole.board.ram h.ram (registers_of from.cpu 4) h.r4;
        knows = event_waits from b.line g h.knows;
        rest = same_rest from b (pushed file) t h.rest refl refl refl refl;
      })

  save_r5 : IsInHandler from SaveR5 b → GoesOn from b SaveR5
  save_r5 h =
      let q = stack_from from g in
      let is : below_stack file ≡ stack_of from - 8 = pushed_to (stack_of from) q (file 1) 6 h.sp (omega arith) in
      let word = subst IsStackWord (sym is) (word_below (stack_of from) q 8 refl (omega arith) (omega arith)) in
      let t = with_ram (opened b) (below_stack file) (file 5) in
      goes_on from b SaveR5 TakeEvent g h refl (pushed file) (Some (below_stack file, file 5)) t
      (record { by = saves_r5 file (opened b) word; effects = push_effects word b.fram; taken = refl; offered = refl; heard = h.heard })
      (record {
        pc = ap (λ p. kept 0 (word_sum (word_sum p 2) 0)) h.pc;
        sp = kept_even (stack_of from) q (below_stack file) 8 is refl (omega arith);
        control = h.control;
        r4 = h.r4;
        r5 = tt;
        others = h.others;
        fram = h.fram;
        ram = push_ram (with_r4 from) 8 (file 5) word is h.whole.board.ram h.ram (registers_of from.cpu 5) h.r5;
        knows = event_waits from b.line g h.knows;
        rest = same_rest from b (pushed file) t h.rest refl refl refl refl;
      })

  take_event : IsInHandler from TakeEvent b → GoesOn from b TakeEvent
  take_event h =
      let r = with_register (moved file 2 0) 4 (port_word b.line.port) in
      let t : BusState = record (opened b) { line = port_read b.line } in
      goes_on from b TakeEvent LoadHead g h refl r None t (quiet TakeEvent refl r t (takes_event file (opened b)) refl refl
      (ap (heard_again b.line.port) h.heard ∙ ap Once h.knows))
      (record {
        pc = ap (λ p. kept 0 (word_sum (word_sum (word_sum p 2) 2) 0)) h.pc;
        sp = h.sp;
        control = h.control;
        r4 = ap port_word h.knows;
        r5 = tt;
        others = h.others;
        fram = h.fram;
        ram = h.ram;
        knows = tt;
        rest = same_rest from b r t h.rest refl refl refl refl;
      })

  load_head : IsInHandler from LoadHead b → GoesOn from b LoadHead
  load_head h =
      let r = with_register (moved file 2 0) 5 (slice_index b.fram (place_of head_place)) in
      goes_on from b LoadHead SubtractTail g h refl r None (opened b) (quiet LoadHead refl r (opened b) (loads_head file (opened b)) refl refl h.heard)
      (record {
        pc = ap (λ p. kept 0 (word_sum (word_sum (word_sum p 2) 2) 0)) h.pc;
        sp = h.sp;
        control = h.control;
        r4 = h.r4;
        r5 = ap (λ f. f head_place) h.fram;
        others = h.others;
        fram = h.fram;
        ram = h.ram;
        knows = tt;
        rest = plain_rest LoadHead r h;
      })

  subtract_tail : IsInHandler from SubtractTail b → GoesOn from b SubtractTail
  subtract_tail h =
      let d = difference_of Word (file 5) (slice_index b.fram (place_of tail_place)) true in
      let r = with_register (flagged (moved file 2 0) d.1) 5 d.0 in
      let low = index_small b.fram (place_of tail_place) h.words.fram in
      goes_on from b SubtractTail CompareRoom g h refl r None (opened b)
      (quiet SubtractTail refl r (opened b) (subtracts_tail file (opened b)) refl refl h.heard)
      (record {
        pc = ap (λ p. kept 0 (word_sum (word_sum (word_sum p 2) 2) 0)) h.pc;
        sp = h.sp;
        control = control_stays (file 2) d.1 h.control;
        r4 = h.r4;
        r5 = difference_is (file 5) (slice_index b.fram (place_of tail_place)) low
            ∙ ap (λ x. word_difference x (slice_index b.fram (place_of tail_place))) h.r5
            ∙ ap (λ x. word_difference (head_of from) x) (ap (λ f. f tail_place) h.fram);
        others = h.others;
        fram = h.fram;
        ram = h.ram;
        knows = tt;
        rest = plain_rest SubtractTail r h;
      })

  compare_room : IsInHandler from CompareRoom b → GoesOn from b CompareRoom
  compare_room h =
      let f = (difference_of Word (file 5) ring_slots true).1 in
      let r = flagged (moved file 2 0) f in
      goes_on from b CompareRoom LeaveIfFull g h refl r None (opened b) (quiet CompareRoom refl r (opened b) (compares_room file (opened b)) refl refl h.heard)
      (record {
        pc = ap (λ p. kept 0 (word_sum (word_sum (word_sum p 2) 2) 0)) h.pc;
        sp = h.sp;
        control = control_stays (file 2) f h.control;
        r4 = h.r4;
        r5 = tt;
        others = h.others;
        fram = h.fram;
        ram = h.ram;
        knows = zero_back (file 2) f h.control
            ∙ ap (λ d. (d + 65471 + 1) % 0x10000 == 0) h.r5
            ∙ compared (word_difference (head_of from) (tail_of from)) (difference_small (head_of from) (tail_of from));
        rest = plain_rest CompareRoom r h;
      })

  -- where the ring is full the rest is left out
  jump_pc : (z : Bool) → (flags_of (file 2)).z ≡ z
      → jump_effect Equal 9 file 0 ≡ kept 0 (if z then word_sum (word_sum (file 0) 2) (distance 9) else word_sum (file 0) 2)
  jump_pc z e = ap (λ x. kept 0 (if x then word_sum (word_sum (file 0) 2) (distance 9) else word_sum (file 0) 2)) e

  leave_if_full : (full : Bool) → is_ring_full from ≡ full → IsInHandler from LeaveIfFull b → GoesOn from b LeaveIfFull
  leave_if_full true e h =
      let r = jump_effect Equal 9 file in
      goes_on from b LeaveIfFull RestoreR5 g h (ap (λ x. Some (if x then RestoreR5 else LoadHeadAgain)) e) r None (opened b)
      (quiet LeaveIfFull refl r (opened b) (leaves_if_full file (opened b)) refl refl h.heard)
      (record {
        pc = jump_pc true (h.knows ∙ e) ∙ ap (λ p. kept 0 (word_sum (word_sum p 2) (distance 9))) h.pc;
        sp = h.sp;
        control = h.control;
        r4 = h.r4;
        r5 = tt;
        others = h.others;
        fram = h.fram ∙ sym (ap (λ x. if x then fram_of from.fram else with_head_raised from) e);
        ram = h.ram;
        knows = tt;
        rest = plain_rest LeaveIfFull r h;
      })
  leave_if_full false e h =
      let r = jump_effect Equal 9 file in
      goes_on from b LeaveIfFull LoadHeadAgain g h (ap (λ x. Some (if x then RestoreR5 else LoadHeadAgain)) e) r None (opened b)
      (quiet LeaveIfFull refl r (opened b) (leaves_if_full file (opened b)) refl refl h.heard)
      (record {
        pc = jump_pc false (h.knows ∙ e) ∙ ap (λ p. kept 0 (word_sum p 2)) h.pc;
        sp = h.sp;
        control = h.control;
        r4 = h.r4;
        r5 = tt;
        others = h.others;
        fram = h.fram;
        ram = h.ram;
        knows = e;
        rest = plain_rest LeaveIfFull r h;
      })

  load_head_again : IsInHandler from LoadHeadAgain b → GoesOn from b LoadHeadAgain
  load_head_again h =
      let r = with_register (moved file 2 0) 5 (slice_index b.fram (place_of head_place)) in
      goes_on from b LoadHeadAgain CutToSlots g h refl r None (opened b) (quiet LoadHeadAgain refl r (opened b) (loads_head file (opened b)) refl refl h.heard)
      (record {
        pc = ap (λ p. kept 0 (word_sum (word_sum (word_sum p 2) 2) 0)) h.pc;
        sp = h.sp;
        control = h.control;
        r4 = h.r4;
        r5 = ap (λ f. f head_place) h.fram;
        others = h.others;
        fram = h.fram;
        ram = h.ram;
        knows = h.knows;
        rest = plain_rest LoadHeadAgain r h;
      })

  cut_to_slots : IsInHandler from CutToSlots b → GoesOn from b CutToSlots
  cut_to_slots h =
      let d = and_of Word (file 5) 63 in
      let r = with_register (flagged (moved file 2 0) d.1) 5 d.0 in
      goes_on from b CutToSlots DoubleIndex g h refl r None (opened b) (quiet CutToSlots refl r (opened b) (cuts_to_slots file (opened b)) refl refl h.heard)
      (record {
        pc = ap (λ p. kept 0 (word_sum (word_sum (word_sum p 2) 2) 0)) h.pc;
        sp = h.sp;
        control = control_stays (file 2) d.1 h.control;
        r4 = h.r4;
        r5 = ap (λ x. bit_and x 63) h.r5 ∙ and_mask (head_of from) 6;
        others = h.others;
        fram = h.fram;
        ram = h.ram;
        knows = h.knows;
        rest = plain_rest CutToSlots r h;
      })

  double_index : IsInHandler from DoubleIndex b → GoesOn from b DoubleIndex
  double_index h =
      let d = sum_of Word (file 5) (file 5) false in
      let r = with_register (flagged (moved file 0 0) d.1) 5 d.0 in
      goes_on from b DoubleIndex StoreWord g h refl r None (opened b) (quiet DoubleIndex refl r (opened b) (doubles_index file (opened b)) refl refl h.heard)
      (record {
        pc = ap (λ p. kept 0 (word_sum (word_sum (word_sum p 2) 0) 0)) h.pc;
        sp = h.sp;
        control = control_stays (file 2) d.1 h.control;
        r4 = h.r4;
        r5 = ap (λ x. (x + x + 0) % 0x10000) h.r5 ∙ doubled (head_of from % ring_slots) (slot_small (head_of from));
        others = h.others;
        fram = h.fram;
        ram = h.ram;
        knows = h.knows;
        rest = plain_rest DoubleIndex r h;
      })

  -- the word goes to the slot
  abbrev slot : ℕ
  slot = word_sum (file 5) ring_place

  abbrev stored_fram : List ℕ
  stored_fram = slice_set b.fram (place_of slot) (file 4)

  slot_is : IsInHandler from StoreWord b → slot ≡ slot_place (head_of from)
  slot_is h = ap (λ x. word_sum x ring_place) h.r5 ∙ slot_sum (head_of from % ring_slots) (slot_small (head_of from))

  stored_is : IsInHandler from StoreWord b → fram_of stored_fram ≡ with_event from
  stored_is h =
      let is = slot_is h in
      sym (put_fram b.fram slot (file 4) h.whole.board.fram (ap is_fram is ∙ slot_is_fram (head_of from)))
      ∙ ap (λ a. put (fram_of b.fram) (word_address a) (file 4)) is
      ∙ ap (λ a. put (fram_of b.fram) a (file 4)) (even_address (slot_place (head_of from)) (slot_even (head_of from)))
      ∙ ap (λ m. put m (slot_place (head_of from)) (file 4)) h.fram
      ∙ ap (λ v. put (fram_of from.fram) (slot_place (head_of from)) v) h.r4

  store_effects : IsInHandler from StoreWord b → store_at (Some slot) stored_fram ≡ Store (slot_place (head_of from)) (event_of from) ∷ []
  store_effects h =
      let is = slot_is h in
      let here = slot_place (head_of from) in
      let there = ap is_fram is ∙ slot_is_fram (head_of from) in
      let even = even_address here (slot_even (head_of from)) in
      ap (λ x. if x then Store (slot - slot % 2) (slice_index stored_fram (place_of slot)) ∷ [] else []) there
      ∙ ap (λ a. Store a (slice_index stored_fram (place_of slot)) ∷ []) (ap word_address is ∙ even)
      ∙ ap (λ v. Store here v ∷ []) (sym (fram_word stored_fram slot there) ∙ ap (λ f. f (word_address slot)) (stored_is h)
      ∙ put_at (fram_of from.fram) here (event_of from) (word_address slot) (ap word_address is ∙ even))

  slot_written : IsInHandler from StoreWord b → with_word (opened b) slot (file 4) ≡ record (opened b) { fram = stored_fram }
  slot_written h =
      ap (λ x. if x then record (opened b) { ram = slice_set b.ram (ram_place slot) (file 4) } else record (opened b) { fram = stored_fram })
      (ap is_ram (slot_is h) ∙ slot_no_ram (head_of from))

  store_word : IsInHandler from StoreWord b → GoesOn from b StoreWord
  store_word h =
      let r = moved file 0 2 in
      let t : BusState = record (opened b) { fram = stored_fram } in
      let there = ap is_word (slot_is h) ∙ slot_is_word (head_of from) in
      goes_on from b StoreWord RaiseHead g h refl r (Some (slot, file 4)) t
      (record {
        by = stores_word file (opened b) there ∙ ap (λ x. Completed (r, Some (slot, file 4)) x) (slot_written h);
        effects = store_effects h;
        taken = refl;
        offered = refl;
        heard = h.heard;
      })
      (record {
        pc = ap (λ p. kept 0 (word_sum (word_sum (word_sum p 2) 0) 2)) h.pc;
        sp = h.sp;
        control = h.control;
        r4 = h.r4;
        r5 = tt;
        others = h.others;
        fram = stored_is h;
        ram = h.ram;
        knows = h.knows;
        rest = same_rest from b r t h.rest refl refl refl refl;
      })

  -- HEAD is raised
  abbrev raised : ℕ
  raised = (sum_of Word (slice_index b.fram (place_of head_place)) 1 false).0

  raised_value : (x : ℕ) → (x + 1 + 0) % 0x10000 ≡ word_sum x 1
  raised_value x = let e : x + 1 + 0 ≡ x + 1 = omega arith in ap (λ n. n % 0x10000) e

  raised_is : IsInHandler from RaiseHead b → raised ≡ word_sum (head_of from) 1
  raised_is h =
      raised_value (slice_index b.fram (place_of head_place))
      ∙ ap (λ x. word_sum x 1) (ap (λ f. f head_place) h.fram
      ∙ put_other (fram_of from.fram) (slot_place (head_of from)) (event_of from) head_place (head_no_slot (head_of from)))

  raised_fram : IsInHandler from RaiseHead b → fram_of (slice_set b.fram (place_of head_place) raised) ≡ with_head_raised from
  raised_fram h =
      sym (put_fram b.fram head_place raised h.whole.board.fram refl)
      ∙ ap (λ m. put m head_place raised) h.fram
      ∙ ap (λ v. put (with_event from) head_place v) (raised_is h)

  raise_head : IsInHandler from RaiseHead b → GoesOn from b RaiseHead
  raise_head h =
      let d = sum_of Word (slice_index b.fram (place_of head_place)) 1 false in
      let r = flagged (moved file 0 2) d.1 in
      let after = slice_set b.fram (place_of head_place) d.0 in
      let t : BusState = record (opened b) { fram = after } in
      goes_on from b RaiseHead RestoreR5 g h refl r (Some (head_place, d.0)) t
      (record {
        by = raises_head file (opened b);
        effects = ap (λ v. Store head_place v ∷ []) (ap (λ f. f head_place) (raised_fram h)
            ∙ put_at (with_event from) head_place (word_sum (head_of from) 1) head_place refl);
        taken = refl;
        offered = refl;
        heard = h.heard;
      })
      (record {
        pc = ap (λ p. kept 0 (word_sum (word_sum (word_sum p 2) 0) 2)) h.pc;
        sp = h.sp;
        control = control_stays (file 2) d.1 h.control;
        r4 = h.r4;
        r5 = tt;
        others = h.others;
        fram = raised_fram h ∙ sym (ap (λ x. if x then fram_of from.fram else with_head_raised from) h.knows);
        ram = h.ram;
        knows = tt;
        rest = same_rest from b r t h.rest refl refl refl refl;
      })

  -- what was pushed comes back
  stack_word : (d : ℕ) → file 1 ≡ stack_of from - d → d % 2 ≡ 0 → 2 ≤ d → d ≤ 8 → IsStackWord (file 1)
  stack_word d is even two few = subst IsStackWord (sym is) (word_below (stack_of from) (stack_from from g) d even two few)

  popped_sp : (d : ℕ) → file 1 ≡ stack_of from - (d + 2) → d % 2 ≡ 0 → d ≤ 6 → popped file 1 ≡ stack_of from - d
  popped_sp d is even few =
      let q = stack_from from g in
      kept_even (stack_of from) q (word_sum (file 1) 2) d (popped_to (stack_of from) q (file 1) d is few) even (omega arith)

  apart : (d e : ℕ) → d < e → e ≤ 8 → stack_of from - d ≡ stack_of from - e → ⊥
  apart d e less few same = let l = g.low in omega arith

  restore_r5 : IsInHandler from RestoreR5 b → GoesOn from b RestoreR5
  restore_r5 h =
      let v = ram_of b.ram (file 1) in
      let r = with_register (popped file) 5 v in
      let word = stack_word 8 h.sp refl (omega arith) (omega arith) in
      goes_on from b RestoreR5 RestoreR4 g h refl r None (opened b)
      (quiet RestoreR5 refl r (opened b) (restores_r5 file (opened b) v (stack_read (opened b) (file 1) word)) refl refl h.heard)
      (record {
        pc = ap (λ p. kept 0 (word_sum (word_sum (word_sum p 2) 0) 0)) h.pc;
        sp = popped_sp 6 h.sp refl (omega arith);
        control = h.control;
        r4 = h.r4;
        r5 = ap (λ f. f (file 1)) h.ram ∙ put_at (with_r4 from) (stack_of from - 8) (registers_of from.cpu 5) (file 1) h.sp;
        others = h.others;
        fram = h.fram;
        ram = h.ram;
        knows = tt;
        rest = plain_rest RestoreR5 r h;
      })

  saved_r4 : with_r5 from (stack_of from - 6) ≡ registers_of from.cpu 4
  saved_r4 =
      put_other (with_r4 from) (stack_of from - 8) (registers_of from.cpu 5) (stack_of from - 6) (apart 6 8 (omega arith) (omega arith))
      ∙ put_at (with_return from) (stack_of from - 6) (registers_of from.cpu 4) (stack_of from - 6) refl

  restore_r4 : IsInHandler from RestoreR4 b → GoesOn from b RestoreR4
  restore_r4 h =
      let v = ram_of b.ram (file 1) in
      let r = with_register (popped file) 4 v in
      let word = stack_word 6 h.sp refl (omega arith) (omega arith) in
      goes_on from b RestoreR4 Return g h refl r None (opened b)
      (quiet RestoreR4 refl r (opened b) (restores_r4 file (opened b) v (stack_read (opened b) (file 1) word)) refl refl h.heard)
      (record {
        pc = ap (λ p. kept 0 (word_sum (word_sum (word_sum p 2) 0) 0)) h.pc;
        sp = popped_sp 4 h.sp refl (omega arith);
        control = h.control;
        r4 = ap (λ f. f (file 1)) h.ram ∙ ap (with_r5 from) h.sp ∙ saved_r4;
        r5 = h.r5;
        others = h.others;
        fram = h.fram;
        ram = h.ram;
        knows = tt;
        rest = plain_rest RestoreR4 r h;
      })

  -- PC and SR are on the stack
  saved_pc : with_r5 from (stack_of from - 2) ≡ registers_of from.cpu 0
  saved_pc =
      put_other (with_r4 from) (stack_of from - 8) (registers_of from.cpu 5) (stack_of from - 2) (apart 2 8 (omega arith) (omega arith))
      ∙ put_other (with_return from) (stack_of from - 6) (registers_of from.cpu 4) (stack_of from - 2) (apart 2 6 (omega arith) (omega arith))
      ∙ put_other (put (ram_of from.ram) (stack_of from - 2) (registers_of from.cpu 0)) (stack_of from - 4) (registers_of from.cpu 2) (stack_of from - 2)
      (apart 2 4 (omega arith) (omega arith))
      ∙ put_at (ram_of from.ram) (stack_of from - 2) (registers_of from.cpu 0) (stack_of from - 2) refl

  saved_sr : with_r5 from (stack_of from - 4) ≡ registers_of from.cpu 2
  saved_sr =
      put_other (with_r4 from) (stack_of from - 8) (registers_of from.cpu 5) (stack_of from - 4) (apart 4 8 (omega arith) (omega arith))
      ∙ put_other (with_return from) (stack_of from - 6) (registers_of from.cpu 4) (stack_of from - 4) (apart 4 6 (omega arith) (omega arith))
      ∙ put_at (put (ram_of from.ram) (stack_of from - 2) (registers_of from.cpu 0)) (stack_of from - 4) (registers_of from.cpu 2) (stack_of from - 4) refl

-- the registers as they were
listed : (rs : List ℕ) → IsRegisters rs → register_list (registers_of rs) ≡ rs
listed (a ∷ b ∷ c ∷ d ∷ e ∷ f ∷ g ∷ h ∷ i ∷ j ∷ k ∷ l ∷ m ∷ n ∷ o ∷ p ∷ []) kept_file = refl
listed _ kept_file = absurd (let e = kept_file.long in omega arith)

abbrev six : ℕ → ℕ → ℕ → ℕ → ℕ → ℕ → List ℕ → List ℕ
six a b c d e f others = a ∷ b ∷ c ∷ d ∷ e ∷ f ∷ others

-- register files that are equal, register by register
record SameFile (r s : Registers) : Type 0 where
  pub pc : r 0 ≡ s 0
  pub sp : r 1 ≡ s 1
  pub sr : r 2 ≡ s 2
  pub r3 : r 3 ≡ s 3
  pub r4 : r 4 ≡ s 4
  pub r5 : r 5 ≡ s 5
  pub others : other_registers r ≡ other_registers s

same_list : (r s : Registers) → SameFile r s → register_list r ≡ register_list s
same_list r s h =
    ap (λ x. six x (r 1) (r 2) (r 3) (r 4) (r 5) (other_registers r)) h.pc
    ∙ ap (λ x. six (s 0) x (r 2) (r 3) (r 4) (r 5) (other_registers r)) h.sp
    ∙ ap (λ x. six (s 0) (s 1) x (r 3) (r 4) (r 5) (other_registers r)) h.sr
    ∙ ap (λ x. six (s 0) (s 1) (s 2) x (r 4) (r 5) (other_registers r)) h.r3
    ∙ ap (λ x. six (s 0) (s 1) (s 2) (s 3) x (r 5) (other_registers r)) h.r4
    ∙ ap (λ x. six (s 0) (s 1) (s 2) (s 3) (s 4) x (other_registers r)) h.r5
    ∙ ap (λ l. six (s 0) (s 1) (s 2) (s 3) (s 4) (s 5) l) h.others

even_kept : (x y : ℕ) → x ≡ y → y % 2 ≡ 0 → x / 2 * 2 ≡ y
even_kept x y e even = omega arith

status_kept : (x y : ℕ) → x ≡ y → y < 0x200 → x % 0x200 ≡ y
status_kept x y e low = omega arith

back_up : (sp x : ℕ) → IsStack sp → x ≡ sp - 4 → word_sum x 4 ≡ sp
back_up sp x q e = let l = q.low in let u = q.high in omega arith

come_back : (from b : BoardValue) → IsInterrupted from → IsInHandler from Return b → GoesOn from b Return
come_back from b g h =
    let file = registers_of b.cpu in
    let q = stack_from from g in
    let sr = ram_of b.ram (file 1) in
    let up : word_sum (file 1) 2 ≡ stack_of from - 2 = popped_to (stack_of from) q (file 1) 2 h.sp (omega arith) in
    let pc = ram_of b.ram (word_sum (file 1) 2) in
    let r = returned file sr pc in
    let low = stack_word from b g 4 h.sp refl (omega arith) (omega arith) in
    let high = subst IsStackWord (sym up) (word_below (stack_of from) q 2 refl (omega arith) (omega arith)) in
    let is_pc : pc ≡ registers_of from.cpu 0 = ap (λ f. f (word_sum (file 1) 2)) h.ram ∙ ap (with_r5 from) up ∙ saved_pc from b g in
    let is_sr : sr ≡ registers_of from.cpu 2 = ap (λ f. f (file 1)) h.ram ∙ ap (with_r5 from) h.sp ∙ saved_sr from b g in
    let kept_file = g.whole.registers in
    let same : SameFile r (registers_of from.cpu) = record {
      pc = even_kept pc (registers_of from.cpu 0) is_pc kept_file.even_pc;
      sp = even_kept (word_sum (file 1) 4) (stack_of from) (back_up (stack_of from) (file 1) q h.sp) kept_file.even_sp;
      sr = status_kept sr (registers_of from.cpu 2) is_sr kept_file.sr;
      r3 = h.whole.registers.r3 ∙ sym kept_file.r3;
      r4 = h.r4;
      r5 = h.r5;
      others = h.others;
    } in
    comes_back from b g h r None (opened b)
    (quiet from b g Return refl r (opened b) (returns file (opened b) sr pc (stack_read (opened b) (file 1) low)
    (stack_read (opened b) (word_sum (file 1) 2) high)) refl refl h.heard)
    (record {
      registers = same_list r (registers_of from.cpu) same ∙ listed from.cpu kept_file;
      fram = h.fram;
      ram = h.ram;
      rest = plain_rest from b g Return r h;
    })

pub handler_goes_on : HandlerGoesOn
handler_goes_on from b SaveR4 g h = save_r4 from b g h
handler_goes_on from b SaveR5 g h = save_r5 from b g h
handler_goes_on from b TakeEvent g h = take_event from b g h
handler_goes_on from b LoadHead g h = load_head from b g h
handler_goes_on from b SubtractTail g h = subtract_tail from b g h
handler_goes_on from b CompareRoom g h = compare_room from b g h
handler_goes_on from b LeaveIfFull g h = leave_if_full from b g (is_ring_full from) refl h
handler_goes_on from b LoadHeadAgain g h = load_head_again from b g h
handler_goes_on from b CutToSlots g h = cut_to_slots from b g h
handler_goes_on from b DoubleIndex g h = double_index from b g h
handler_goes_on from b StoreWord g h = store_word from b g h
handler_goes_on from b RaiseHead g h = raise_head from b g h
handler_goes_on from b RestoreR5 g h = restore_r5 from b g h
handler_goes_on from b RestoreR4 g h = restore_r4 from b g h
handler_goes_on from b Return g h = come_back from b g h
