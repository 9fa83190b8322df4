-- The effect of each of the handler's instructions.
use Rattle.std.proofs.Common.{◌≡◌, ℕ, refl, ◌∙◌, ap, true, false, slice_index, slice_set, Option, Some, None}
use Rattle.msp_isa.specs.alp_words.declared.Width.TheVariants.{Word}
use Rattle.msp_isa.specs.alp_words.declared.Flags.{Flags}
use Rattle.msp_isa.specs.alp_words.Words.{sum_of, difference_of, and_of}
use Rattle.msp_isa.specs.declared.instructions.TwoOp.TheVariants.{Mov}
use Rattle.msp_isa.specs.declared.instructions.Condition.TheVariants.{Equal}
use Rattle.msp_isa.specs.declared.registers.IndexRegister.{IndexRegister}
use Rattle.msp_isa.specs.declared.registers.IndexRegister.TheVariants.{R4, R5}
use Rattle.msp_isa.specs.declared.registers.Reg.TheVariants as reg
use Rattle.msp_isa.specs.declared.operands.Dst.TheVariants as dst
use Rattle.fram_board.specs.msp_step.Registers.{Registers, with_register}
use Rattle.fram_board.specs.msp_step.Access.{Access, Completed, then_do, read_at}
use Rattle.fram_board.specs.msp_step.Effect.{Written, word_sum, below_stack, status_with, jump_effect, after_source, destination_location}
use Rattle.fram_board.specs.msp_step.Step.{effect}
use Rattle.fram_board.specs.image_text.ImageValue.{place_of}
use Rattle.fram_board.specs.Bus.{BusState, board_bus, with_word, is_word}
use Rattle.fram_board.specs.Events.{port_word, port_read}
use Rattle.event_places.specs.Places.{tail_place, head_place, ring_place, ring_slots}
use Rattle.event_handler.specs.Handler.{SaveR4, SaveR5, TakeEvent, LoadHead, SubtractTail, CompareRoom, LeaveIfFull, CutToSlots}
use Rattle.event_handler.specs.Handler.{DoubleIndex, StoreWord, RaiseHead, RestoreR5, RestoreR4, Return, instruction_at}
use Rattle.event_handler.proofs.Bus.{IsStackWord, with_ram, stack_write, memory_write}

-- PC moved behind the operation word, and then behind the extension words of source and destination
abbrev pub moved : Registers → ℕ → ℕ → Registers
moved r source destination = with_register (with_register r 0 (word_sum (r 0) 2)) 0 (word_sum (word_sum (word_sum (r 0) 2) source) destination)

abbrev pub flagged : Registers → Flags → Registers
flagged r f = with_register r 2 (status_with (r 2) f)

abbrev pub Effect : Type 0
Effect = Access BusState (Registers × Option Written)

abbrev pub pushed : Registers → Registers
pushed r = with_register (with_register (with_register r 0 (word_sum (r 0) 2)) 0 (word_sum (word_sum (r 0) 2) 0)) 1 (below_stack r)

-- SP moved up behind a read of the word at it
abbrev pub popped : Registers → Registers
popped r = with_register (with_register (with_register r 0 (word_sum (r 0) 2)) 1 (word_sum (r 1) 2)) 0 (word_sum (word_sum (word_sum (r 0) 2) 0) 0)

abbrev pub returned : Registers → ℕ → ℕ → Registers
returned r sr pc = with_register (with_register (with_register r 1 (word_sum (r 1) 4)) 2 sr) 0 pc

-- MOV @SP+ to a register, from what the read gives
abbrev popping : Registers → IndexRegister → Access BusState ℕ → Effect
popping r n m =
    let first = word_sum (r 0) 2 in
    let raised = with_register (with_register r 0 first) 1 (word_sum (r 1) 2) in
    then_do {A = ℕ × Registers} {B = Registers × Option Written} (then_do {A = ℕ} {B = ℕ × Registers} m (λ v t. Completed (v, raised) t))
    (λ x t. let past = with_register x.1 0 (word_sum (word_sum first 0) 0) in
    after_source board_bus Mov Word (destination_location past (word_sum first 0) (dst.Reg (reg.Index n))) x.0 past t)

module _ (r : Registers) (s : BusState) where
  pub saves_r4 : IsStackWord (below_stack r) → effect board_bus (instruction_at SaveR4) r s ≡
      Completed (pushed r, Some (below_stack r, r 4)) (with_ram s (below_stack r) (r 4))
  unfolding effect
  saves_r4 h = stack_write s (below_stack r) (r 4) (pushed r, Some (below_stack r, r 4)) h

  pub saves_r5 : IsStackWord (below_stack r) → effect board_bus (instruction_at SaveR5) r s ≡
      Completed (pushed r, Some (below_stack r, r 5)) (with_ram s (below_stack r) (r 5))
  unfolding effect
  saves_r5 h = stack_write s (below_stack r) (r 5) (pushed r, Some (below_stack r, r 5)) h

  pub takes_event : effect board_bus (instruction_at TakeEvent) r s ≡
      Completed (with_register (moved r 2 0) 4 (port_word s.line.port), None) (record s { line = port_read s.line })
  unfolding effect
  takes_event = refl

  pub loads_head : effect board_bus (instruction_at LoadHead) r s ≡
      Completed (with_register (moved r 2 0) 5 (slice_index s.fram (place_of head_place)), None) s
  unfolding effect
  loads_head = refl

  pub subtracts_tail : let d = difference_of Word (r 5) (slice_index s.fram (place_of tail_place)) true in
      effect board_bus (instruction_at SubtractTail) r s ≡ Completed (with_register (flagged (moved r 2 0) d.1) 5 d.0, None) s
  unfolding effect
  subtracts_tail = refl

  pub compares_room : effect board_bus (instruction_at CompareRoom) r s ≡
      Completed (flagged (moved r 2 0) (difference_of Word (r 5) ring_slots true).1, None) s
  unfolding effect
  compares_room = refl

  pub leaves_if_full : effect board_bus (instruction_at LeaveIfFull) r s ≡ Completed (jump_effect Equal 9 r, None) s
  unfolding effect
  leaves_if_full = refl

  pub cuts_to_slots : let d = and_of Word (r 5) 63 in
      effect board_bus (instruction_at CutToSlots) r s ≡ Completed (with_register (flagged (moved r 2 0) d.1) 5 d.0, None) s
  unfolding effect
  cuts_to_slots = refl

  pub doubles_index : let d = sum_of Word (r 5) (r 5) false in
      effect board_bus (instruction_at DoubleIndex) r s ≡ Completed (with_register (flagged (moved r 0 0) d.1) 5 d.0, None) s
  unfolding effect
  doubles_index = refl

  pub stores_word : is_word (word_sum (r 5) ring_place) ≡ true → effect board_bus (instruction_at StoreWord) r s ≡
      Completed (moved r 0 2, Some (word_sum (r 5) ring_place, r 4)) (with_word s (word_sum (r 5) ring_place) (r 4))
  unfolding effect
  stores_word h = memory_write s (word_sum (r 5) ring_place) (r 4) (moved r 0 2, Some (word_sum (r 5) ring_place, r 4)) h

  pub raises_head : let d = sum_of Word (slice_index s.fram (place_of head_place)) 1 false in
      effect board_bus (instruction_at RaiseHead) r s ≡
      Completed (flagged (moved r 0 2) d.1, Some (head_place, d.0)) (record s { fram = slice_set s.fram (place_of head_place) d.0 })
  unfolding effect
  raises_head = refl

  pub restores_r5 : (v : ℕ) → read_at board_bus (r 1) Word s ≡ Completed v s
      → effect board_bus (instruction_at RestoreR5) r s ≡ Completed (with_register (popped r) 5 v, None) s
  unfolding effect
  restores_r5 v h = ap (popping r R5) h

  pub restores_r4 : (v : ℕ) → read_at board_bus (r 1) Word s ≡ Completed v s
      → effect board_bus (instruction_at RestoreR4) r s ≡ Completed (with_register (popped r) 4 v, None) s
  unfolding effect
  restores_r4 v h = ap (popping r R4) h

  pub returns : (sr pc : ℕ) → read_at board_bus (r 1) Word s ≡ Completed sr s → read_at board_bus (word_sum (r 1) 2) Word s ≡ Completed pc s
      → effect board_bus (instruction_at Return) r s ≡ Completed (returned r sr pc, None) s
  unfolding effect
  returns sr pc h k =
      ap (λ m. then_do {A = ℕ} {B = Registers × Option Written} m
      (λ x t. then_do (read_at board_bus (word_sum (r 1) 2) Word t) (λ y u. Completed (returned r x y, None) u))) h
      ∙ ap (λ m. then_do {A = ℕ} {B = Registers × Option Written} m (λ y u. Completed (returned r sr y, None) u)) k
