-- The boundaries of a run at which the handler runs: what the board holds there, beside the port EVENT, is what the acceptance found,
-- as far as the handler has come.
use Rattle.std.specs.Prelude.{◌≡◌, ℕ, ◌-◌, ◌*◌, ◌/◌, ◌%◌, ◌≤◌, ◌==◌, Bool, true, false, if◌then◌else◌, List, [], ◌∷◌, Option, Some, None}
use Rattle.msp_step.specs.alp_words.Words.{word_sum, word_difference}
use Rattle.fram_board.specs.address_space.Limits.{stack_floor, stack_top}
use Rattle.fram_board.specs.msp_step.Registers.{Registers, registers_of}
use Rattle.fram_board.specs.msp_step.Effect.{flags_of}
use Rattle.fram_board.specs.declared.events.Heard.{Heard}
use Rattle.fram_board.specs.declared.events.Heard.TheVariants.{Nothing, Once}
use Rattle.fram_board.specs.Events.{port_word}
use Rattle.fram_board.specs.Board.{BoardValue, is_accepting}
use Rattle.fram_board.specs.Effects.{Effect, Store}
use Rattle.machine_effects.specs.World.{put}
use Rattle.machine_effects.specs.Machine.{fram_of, ram_of}
use Rattle.machine_effects.specs.View.{IsWhole, IsOfWords}
use Rattle.event_places.specs.Places.{tail_place, head_place, slot_place, ring_slots, is_ring}
use Rattle.event_handler.specs.Handler.{Stage, SaveR4, SaveR5, TakeEvent, LoadHead, SubtractTail, CompareRoom, LeaveIfFull, LoadHeadAgain, CutToSlots}
use Rattle.event_handler.specs.Handler.{DoubleIndex, StoreWord, RaiseHead, RestoreR5, RestoreR4, Return, HasHandler, place_at}

abbrev pub stack_of : BoardValue → ℕ
stack_of b = registers_of b.cpu 1

-- a board that accepts an event, and has a handler and room for it on the stack
pub record IsInterrupted (from : BoardValue) : Type 0 where
  pub whole : IsWhole from
  pub words : IsOfWords from
  pub accepting : is_accepting from ≡ true
  pub handler : HasHandler (fram_of from.fram)
  pub low : stack_floor ≤ stack_of from
  pub high : stack_of from ≤ stack_top

-- the word that waits in EVENT
abbrev pub event_of : BoardValue → ℕ
event_of b = port_word b.line.port

abbrev pub head_of : BoardValue → ℕ
head_of b = fram_of b.fram head_place

abbrev pub tail_of : BoardValue → ℕ
tail_of b = fram_of b.fram tail_place

-- no slot of the ring is free: HEAD - TAIL is 64, modulo 65536
abbrev pub is_ring_full : BoardValue → Bool
is_ring_full b = word_difference (head_of b) (tail_of b) == ring_slots

-- FRAM once the word of the event is stored, at the slot of HEAD
abbrev pub with_event : BoardValue → ℕ → ℕ
with_event from = put (fram_of from.fram) (slot_place (head_of from)) (event_of from)

-- and once HEAD is raised
abbrev pub with_head_raised : BoardValue → ℕ → ℕ
with_head_raised from = put (with_event from) head_place (word_sum (head_of from) 1)

-- FRAM as the handler leaves it: at a full ring it is as before
abbrev pub fram_behind : BoardValue → ℕ → ℕ
fram_behind from = if is_ring_full from then fram_of from.fram else with_head_raised from

-- FRAM in front of each instruction: the word is stored before HEAD is raised
abbrev pub fram_at : BoardValue → Stage → ℕ → ℕ
fram_at from RaiseHead = with_event from
fram_at from RestoreR5 = fram_behind from
fram_at from RestoreR4 = fram_behind from
fram_at from Return = fram_behind from
fram_at from _ = fram_of from.fram

-- RAM behind the acceptance: PC and SR are on the stack
abbrev pub with_return : BoardValue → ℕ → ℕ
with_return from = put (put (ram_of from.ram) (stack_of from - 2) (registers_of from.cpu 0)) (stack_of from - 4) (registers_of from.cpu 2)

-- and once R4 and R5 are
abbrev pub with_r4 : BoardValue → ℕ → ℕ
with_r4 from = put (with_return from) (stack_of from - 6) (registers_of from.cpu 4)

abbrev pub with_r5 : BoardValue → ℕ → ℕ
with_r5 from = put (with_r4 from) (stack_of from - 8) (registers_of from.cpu 5)

-- RAM in front of each instruction
abbrev pub ram_at : BoardValue → Stage → ℕ → ℕ
ram_at from SaveR4 = with_return from
ram_at from SaveR5 = with_r4 from
ram_at from _ = with_r5 from

-- how many bytes of the stack are in use
abbrev pub depth_at : Stage → ℕ
depth_at SaveR4 = 4
depth_at SaveR5 = 6
depth_at RestoreR4 = 6
depth_at Return = 4
depth_at _ = 8

-- what R4 holds: the word of the event, from where it was taken
abbrev pub r4_at : BoardValue → Stage → ℕ
r4_at from SaveR4 = registers_of from.cpu 4
r4_at from SaveR5 = registers_of from.cpu 4
r4_at from TakeEvent = registers_of from.cpu 4
r4_at from Return = registers_of from.cpu 4
r4_at from _ = event_of from

-- what R5 holds in front of the instructions that read it
abbrev pub HoldsR5 : BoardValue → Stage → ℕ → Type 0
HoldsR5 from SaveR4 v = v ≡ registers_of from.cpu 5
HoldsR5 from SaveR5 v = v ≡ registers_of from.cpu 5
HoldsR5 from SubtractTail v = v ≡ head_of from
HoldsR5 from CompareRoom v = v ≡ word_difference (head_of from) (tail_of from)
HoldsR5 from CutToSlots v = v ≡ head_of from
HoldsR5 from DoubleIndex v = v ≡ head_of from % ring_slots
HoldsR5 from StoreWord v = v ≡ 2 * (head_of from % ring_slots)
HoldsR5 from RestoreR4 v = v ≡ registers_of from.cpu 5
HoldsR5 from Return v = v ≡ registers_of from.cpu 5
HoldsR5 from _ v = Unit {0}

-- what is known besides: the event waits until it is taken; the flag Z tells whether the ring is full; and where a word is stored it isn't
abbrev pub KnowsAt : BoardValue → Stage → BoardValue → Type 0
KnowsAt from SaveR4 b = b.line.port ≡ from.line.port
KnowsAt from SaveR5 b = b.line.port ≡ from.line.port
KnowsAt from TakeEvent b = b.line.port ≡ from.line.port
KnowsAt from LeaveIfFull b = (flags_of (registers_of b.cpu 2)).z ≡ is_ring_full from
KnowsAt from LoadHeadAgain b = is_ring_full from ≡ false
KnowsAt from CutToSlots b = is_ring_full from ≡ false
KnowsAt from DoubleIndex b = is_ring_full from ≡ false
KnowsAt from StoreWord b = is_ring_full from ≡ false
KnowsAt from RaiseHead b = is_ring_full from ≡ false
KnowsAt from _ b = Unit {0}

-- R6 to R15
abbrev pub other_registers : Registers → List ℕ
other_registers r = r 6 ∷ r 7 ∷ r 8 ∷ r 9 ∷ r 10 ∷ r 11 ∷ r 12 ∷ r 13 ∷ r 14 ∷ r 15 ∷ []

-- what the handler never touches
pub record KeepsTheRest (from b : BoardValue) : Type 0 where
  pub readings : b.readings ≡ from.readings
  pub taken : b.taken ≡ from.taken
  pub outnum : b.outnum ≡ from.outnum
  pub receiver : b.receiver ≡ from.receiver

-- the board is at the boundary in front of this instruction of the handler, which was entered at an acceptance of the board `from`
pub record IsInHandler (from : BoardValue) (at : Stage) (b : BoardValue) : Type 0 where
  pub whole : IsWhole b
  pub words : IsOfWords b
  pub pc : registers_of b.cpu 0 ≡ place_at at
  pub sp : stack_of b ≡ stack_of from - depth_at at
  pub control : registers_of b.cpu 2 / 8 % 0x20 ≡ 0  -- GIE and CPUOFF are clear
  pub r4 : registers_of b.cpu 4 ≡ r4_at from at
  pub r5 : HoldsR5 from at (registers_of b.cpu 5)
  pub others : other_registers (registers_of b.cpu) ≡ other_registers (registers_of from.cpu)
  pub fram : fram_of b.fram ≡ fram_at from at
  pub ram : ram_of b.ram ≡ ram_at from at
  pub knows : KnowsAt from at b
  pub heard : b.line.heard ≡ Nothing
  pub rest : KeepsTheRest from b

-- the board is at the boundary behind the handler's return
pub record HasReturned (from b : BoardValue) : Type 0 where
  pub whole : IsWhole b
  pub words : IsOfWords b
  pub registers : b.cpu ≡ from.cpu
  pub fram : fram_of b.fram ≡ fram_behind from
  pub ram : ram_of b.ram ≡ with_r5 from
  pub rest : KeepsTheRest from b

-- which instruction comes next; none behind the return
abbrev pub next_stage : BoardValue → Stage → Option Stage
next_stage from SaveR4 = Some SaveR5
next_stage from SaveR5 = Some TakeEvent
next_stage from TakeEvent = Some LoadHead
next_stage from LoadHead = Some SubtractTail
next_stage from SubtractTail = Some CompareRoom
next_stage from CompareRoom = Some LeaveIfFull
next_stage from LeaveIfFull = Some (if is_ring_full from then RestoreR5 else LoadHeadAgain)
next_stage from LoadHeadAgain = Some CutToSlots
next_stage from CutToSlots = Some DoubleIndex
next_stage from DoubleIndex = Some StoreWord
next_stage from StoreWord = Some RaiseHead
next_stage from RaiseHead = Some RestoreR5
next_stage from RestoreR5 = Some RestoreR4
next_stage from RestoreR4 = Some Return
next_stage from Return = None

-- the board behind an instruction of the handler
abbrev pub IsBehind : BoardValue → Option Stage → BoardValue → Type 0
IsBehind from None b = HasReturned from b
IsBehind from (Some at) b = IsInHandler from at b

-- the effects of each instruction: one stores the word, one HEAD
abbrev pub effects_at : BoardValue → Stage → List Effect
effects_at from StoreWord = Store (slot_place (head_of from)) (event_of from) ∷ []
effects_at from RaiseHead = Store head_place (word_sum (head_of from) 1) ∷ []
effects_at from _ = []

-- what each instruction reads of EVENT: one reads it, once, and takes the event
abbrev pub heard_at : BoardValue → Stage → Heard
heard_at from TakeEvent = Once from.line.port
heard_at from _ = Nothing

-- the cycles from an instruction to behind the return, at most: exactly so many where the ring isn't full
abbrev pub cycles_left : Stage → ℕ
cycles_left SaveR4 = 42
cycles_left SaveR5 = 39
cycles_left TakeEvent = 36
cycles_left LoadHead = 33
cycles_left SubtractTail = 30
cycles_left CompareRoom = 27
cycles_left LeaveIfFull = 25
cycles_left LoadHeadAgain = 23
cycles_left CutToSlots = 20
cycles_left DoubleIndex = 18
cycles_left StoreWord = 17
cycles_left RaiseHead = 13
cycles_left RestoreR5 = 9
cycles_left RestoreR4 = 7
cycles_left Return = 5

-- how many instructions those are, at most
abbrev pub instructions_left : Stage → ℕ
instructions_left SaveR4 = 15
instructions_left SaveR5 = 14
instructions_left TakeEvent = 13
instructions_left LoadHead = 12
instructions_left SubtractTail = 11
instructions_left CompareRoom = 10
instructions_left LeaveIfFull = 9
instructions_left LoadHeadAgain = 8
instructions_left CutToSlots = 7
instructions_left DoubleIndex = 6
instructions_left StoreWord = 5
instructions_left RaiseHead = 4
instructions_left RestoreR5 = 3
instructions_left RestoreR4 = 2
instructions_left Return = 1

-- a count that is left, where something is
abbrev pub left_behind : (Stage → ℕ) → Option Stage → ℕ
left_behind count None = 0
left_behind count (Some at) = count at

-- what lasts of a board, and what the program sees of it, is as at the acceptance, but for the ring
pub record IsOutsideAs (from b : BoardValue) : Type 0 where
  pub fram : (a : ℕ) → is_ring a ≡ false → fram_of b.fram a ≡ fram_of from.fram a
  pub ram : (a : ℕ) → stack_of from ≤ a → ram_of b.ram a ≡ ram_of from.ram a
  pub rest : KeepsTheRest from b
