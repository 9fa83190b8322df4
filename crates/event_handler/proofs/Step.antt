-- A step of the handler, put together from what its instruction leaves.
use Rattle.std.proofs.Common.{◌≡◌, ◌+◌, ◌-◌, ◌*◌, ◌/◌, ◌%◌, ◌<◌, ◌==◌, ◌&&◌, nat_lt, arith, ℕ, refl, sym, ◌∙◌, ap, subst, Bool, true, false}
use Rattle.std.proofs.Common.{Option, Some, None, slice_index}
use Rattle.std.specs.Option.{option_map}
use Rattle.std.proofs.lemmas.Bool.Decides.{nat_tests}
use Rattle.msp_isa.specs.declared.instructions.Instr.{Instr}
use Rattle.msp_isa.specs.Encoding.{encoding, IsInstruction}
use Rattle.msp_cycles.specs.Cycles.{cycles_of}
use Rattle.fram_board.specs.msp_step.Registers.{Registers, registers_of}
use Rattle.fram_board.specs.msp_step.Access.{Completed}
use Rattle.fram_board.specs.msp_step.Effect.{Written}
use Rattle.fram_board.specs.msp_step.Step.{effect, FetchedAt, off_bit, enabled_bit}
use Rattle.fram_board.specs.declared.board.Stepped.{Stepped}
use Rattle.fram_board.specs.Bus.{BusState, board_bus}
use Rattle.fram_board.specs.Events.{is_full}
use Rattle.fram_board.specs.Board.{BoardValue, opened, closed, register_list, accepted_word, executed, IsNextInstruction, is_accepting}
use Rattle.fram_board.specs.Board.{at_boundary}
use Rattle.fram_board.specs.Effects.{store_at, effects_of}
use Rattle.machine_effects.specs.Machine.{fram_of, ram_of}
use Rattle.machine_effects.specs.View.{IsWhole, IsOfWords}
use Rattle.machine_effects.proofs.Interface.{executed_is_step, step_leaves_it_whole, words_stay_words, boundary_whole, boundary_words, boundary_heard}
use Rattle.event_places.specs.Places.{handler_place, is_ring}
use Rattle.event_handler.specs.Handler.{Stage, SaveR4, SaveR5, TakeEvent, LoadHead, SubtractTail, CompareRoom, LeaveIfFull, LoadHeadAgain, CutToSlots}
use Rattle.event_handler.specs.Handler.{DoubleIndex, StoreWord, RaiseHead, RestoreR5, RestoreR4, Return, instruction_at, handler_words, place_at}
use Rattle.event_handler.specs.Boundaries.{IsInterrupted, IsInHandler, KeepsTheRest, IsBehind, KnowsAt, HoldsR5, stack_of, depth_at, r4_at}
use Rattle.event_handler.specs.Boundaries.{other_registers, fram_at, fram_behind, ram_at, with_r5, next_stage, effects_at, heard_at}
use Rattle.event_handler.specs.Laws.{GoesOn}
use Rattle.event_handler.proofs.Keeps.{off_ring}
use Rattle.event_handler.proofs.Bus.{effects_are, executed_as}

-- no acceptance is due in the handler
no_interrupt : (full on enabled : Bool) → enabled ≡ false → (full && (on && enabled)) ≡ false
no_interrupt true true enabled e = e
no_interrupt true false enabled e = refl
no_interrupt false on enabled e = refl

enabled_low : (sr : ℕ) → sr / 8 % 0x20 ≡ 0 → sr / 8 % 2 ≡ 0
enabled_low sr h = omega arith

off_low : (sr : ℕ) → sr / 8 % 0x20 ≡ 0 → sr / 0x10 % 2 ≡ 0
off_low sr h = omega arith

none_due : (from : BoardValue) (at : Stage) (b : BoardValue) → IsInHandler from at b → is_accepting b ≡ false
none_due from at b h =
    no_interrupt (is_full b.line.port) (off_bit (registers_of b.cpu) == 0) (enabled_bit (registers_of b.cpu) == 1)
    (ap (λ n. n == 1) (enabled_low (registers_of b.cpu 2) h.control))

-- the handler's words stand at PC
is_one : (at : Stage) → IsInstruction (instruction_at at)
is_one SaveR4 = tt
is_one SaveR5 = tt
is_one TakeEvent = tt
is_one LoadHead = tt
is_one SubtractTail = tt
is_one CompareRoom = tt
is_one LeaveIfFull = omega arith
is_one LoadHeadAgain = tt
is_one CutToSlots = tt
is_one DoubleIndex = tt
is_one StoreWord = tt
is_one RaiseHead = tt
is_one RestoreR5 = tt
is_one RestoreR4 = tt
is_one Return = tt

is_below : (k : ℕ) → nat_lt k 23 ≡ true → k < 23
is_below k h = grind (arith, nat_tests)

code_off_ring : (k : ℕ) → k < 23 → is_ring (handler_place + 2 * k) ≡ false
code_off_ring k low = grind (arith, nat_tests)

module _ (from b : BoardValue) (at : Stage) (g : IsInterrupted from) (h : IsInHandler from at b) where
  word_at : (k : ℕ) → nat_lt k 23 ≡ true → fram_of b.fram (handler_place + 2 * k) ≡ slice_index handler_words k
  word_at k low =
      let l = is_below k low in
      ap (λ f. f (handler_place + 2 * k)) h.fram ∙ off_ring from at (handler_place + 2 * k) (code_off_ring k l) ∙ g.handler.words k l

-- the words of each instruction
fetched_by : (from b : BoardValue) (at : Stage) → IsInterrupted from → IsInHandler from at b
    → FetchedAt board_bus (opened b) (place_at at) (encoding (instruction_at at))
fetched_by from b SaveR4 g h = (ap Some (word_at from b SaveR4 g h 0 refl), tt)
fetched_by from b SaveR5 g h = (ap Some (word_at from b SaveR5 g h 1 refl), tt)
fetched_by from b TakeEvent g h = (ap Some (word_at from b TakeEvent g h 2 refl), (ap Some (word_at from b TakeEvent g h 3 refl), tt))
fetched_by from b LoadHead g h = (ap Some (word_at from b LoadHead g h 4 refl), (ap Some (word_at from b LoadHead g h 5 refl), tt))
fetched_by from b SubtractTail g h = (ap Some (word_at from b SubtractTail g h 6 refl), (ap Some (word_at from b SubtractTail g h 7 refl), tt))
fetched_by from b CompareRoom g h = (ap Some (word_at from b CompareRoom g h 8 refl), (ap Some (word_at from b CompareRoom g h 9 refl), tt))
fetched_by from b LeaveIfFull g h = (ap Some (word_at from b LeaveIfFull g h 10 refl), tt)
fetched_by from b LoadHeadAgain g h = (ap Some (word_at from b LoadHeadAgain g h 11 refl), (ap Some (word_at from b LoadHeadAgain g h 12 refl), tt))
fetched_by from b CutToSlots g h = (ap Some (word_at from b CutToSlots g h 13 refl), (ap Some (word_at from b CutToSlots g h 14 refl), tt))
fetched_by from b DoubleIndex g h = (ap Some (word_at from b DoubleIndex g h 15 refl), tt)
fetched_by from b StoreWord g h = (ap Some (word_at from b StoreWord g h 16 refl), (ap Some (word_at from b StoreWord g h 17 refl), tt))
fetched_by from b RaiseHead g h = (ap Some (word_at from b RaiseHead g h 18 refl), (ap Some (word_at from b RaiseHead g h 19 refl), tt))
fetched_by from b RestoreR5 g h = (ap Some (word_at from b RestoreR5 g h 20 refl), tt)
fetched_by from b RestoreR4 g h = (ap Some (word_at from b RestoreR4 g h 21 refl), tt)
fetched_by from b Return g h = (ap Some (word_at from b Return g h 22 refl), tt)

is_next : (from b : BoardValue) (at : Stage) → IsInterrupted from → IsInHandler from at b → IsNextInstruction b (instruction_at at)
is_next from b at g h = record {
  on = off_low (registers_of b.cpu 2) h.control;
  is = is_one at;
  fetched = subst (λ p. FetchedAt board_bus (opened b) p (encoding (instruction_at at))) (sym h.pc) (fetched_by from b at g h);
}

-- what an instruction leaves in front of the next one
pub record Leaves (from b : BoardValue) (next : Stage) (r : Registers) (t : BusState) : Type 0 where
  pub pc : r 0 ≡ place_at next
  pub sp : r 1 ≡ stack_of from - depth_at next
  pub control : r 2 / 8 % 0x20 ≡ 0
  pub r4 : r 4 ≡ r4_at from next
  pub r5 : HoldsR5 from next (r 5)
  pub others : other_registers r ≡ other_registers (registers_of from.cpu)
  pub fram : fram_of t.fram ≡ fram_at from next
  pub ram : ram_of t.ram ≡ ram_at from next
  pub knows : KnowsAt from next (at_boundary (closed b r t))
  pub rest : KeepsTheRest from (closed b r t)

-- an instruction that is served, with its effects
pub record Served (from b : BoardValue) (at : Stage) (r : Registers) (wrote : Option Written) (t : BusState) : Type 0 where
  pub by : effect board_bus (instruction_at at) (registers_of b.cpu) (opened b) ≡ Completed (r, wrote) t
  pub effects : store_at (option_map (λ p. p.0) wrote) t.fram ≡ effects_at from at
  pub taken : t.taken ≡ b.taken
  pub offered : t.offered ≡ None
  pub heard : t.line.heard ≡ heard_at from at

-- what the board answers of it
answered : BoardValue → Instr → Option Written → BusState → Stepped
answered b i wrote t = record {
  cycles = cycles_of i;
  wrote = option_map (λ p. p.0) wrote;
  took = t.taken - b.taken;
  accepted = accepted_word t.outnum t.offered b.receiver;
  heard = t.line.heard;
  sent = t.sent;
}

in_front : (from b : BoardValue) (next : Stage) (r : Registers) (t : BusState) → IsWhole (at_boundary (closed b r t))
    → IsOfWords (at_boundary (closed b r t)) → Leaves from b next r t → IsInHandler from next (at_boundary (closed b r t))
in_front from b next r t whole words l = record {
  whole = whole;
  words = words;
  pc = l.pc;
  sp = l.sp;
  control = l.control;
  r4 = l.r4;
  r5 = l.r5;
  others = l.others;
  fram = l.fram;
  ram = l.ram;
  knows = l.knows;
  heard = boundary_heard (closed b r t);
  rest = record { readings = l.rest.readings; taken = l.rest.taken; outnum = l.rest.outnum; receiver = l.rest.receiver };
}

-- a step, from what is behind it
served_step : (from b : BoardValue) (at : Stage) → IsInterrupted from → IsInHandler from at b → (r : Registers) (wrote : Option Written) (t : BusState)
    → Served from b at r wrote t
    → (IsWhole (at_boundary (closed b r t)) → IsOfWords (at_boundary (closed b r t)) → IsBehind from (next_stage from at) (at_boundary (closed b r t)))
    → GoesOn from b at
unfolding answered
served_step from b at g h r wrote t s behind =
    let i = instruction_at at in
    let next = is_next from b at g h in
    let ran = executed_as b i (r, wrote) t s.by in
    let step = executed_is_step b i next in
    let whole = boundary_whole (executed b i).board (step_leaves_it_whole b (executed b i) h.whole step) in
    let words = boundary_words (executed b i).board (words_stay_words b (executed b i) h.whole h.words step) in
    record {
      none = none_due from at b h;
      next = next;
      done = answered b i wrote t;
      made = ap (λ x. x.answer) ran;
      cycles = refl;
      effects = ap (effects_of b) ran ∙ effects_are b i (r, wrote) t s.taken s.offered ∙ s.effects;
      heard = s.heard;
      behind = subst (λ x. IsBehind from (next_stage from at) (at_boundary x.board)) (sym ran)
          (behind (subst (λ x. IsWhole (at_boundary x.board)) ran whole) (subst (λ x. IsOfWords (at_boundary x.board)) ran words));
    }

-- to another instruction of the handler
pub goes_on : (from b : BoardValue) (at next : Stage) → IsInterrupted from → IsInHandler from at b → next_stage from at ≡ Some next
    → (r : Registers) (wrote : Option Written) (t : BusState) → Served from b at r wrote t → Leaves from b next r t → GoesOn from b at
goes_on from b at next g h is r wrote t s l =
    served_step from b at g h r wrote t s
    (λ whole words. subst (λ n. IsBehind from n (at_boundary (closed b r t))) (sym is) (in_front from b next r t whole words l))

-- what the return leaves
pub record LeavesBehind (from b : BoardValue) (r : Registers) (t : BusState) : Type 0 where
  pub registers : register_list r ≡ from.cpu
  pub fram : fram_of t.fram ≡ fram_behind from
  pub ram : ram_of t.ram ≡ with_r5 from
  pub rest : KeepsTheRest from (closed b r t)

-- the return
pub comes_back : (from b : BoardValue) → IsInterrupted from → IsInHandler from Return b → (r : Registers) (wrote : Option Written) (t : BusState)
    → Served from b Return r wrote t → LeavesBehind from b r t → GoesOn from b Return
comes_back from b g h r wrote t s l =
    served_step from b Return g h r wrote t s
    (λ whole words. record {
      whole = whole;
      words = words;
      registers = l.registers;
      fram = l.fram;
      ram = l.ram;
      rest = record { readings = l.rest.readings; taken = l.rest.taken; outnum = l.rest.outnum; receiver = l.rest.receiver };
    })
