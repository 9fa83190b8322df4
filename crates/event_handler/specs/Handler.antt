-- The handler: it takes the event that waits in the port EVENT into the ring, unless that is full, and lets the program go on as it was.
use Rattle.std.specs.Prelude.{◌≡◌, ℕ, ◌+◌, ◌*◌, ◌<◌, List, [], ◌∷◌, ◌++◌, slice_index}
use Rattle.msp_isa.specs.alp_words.declared.Width.TheVariants.{Word}
use Rattle.msp_isa.specs.declared.registers.IndexRegister.{IndexRegister}
use Rattle.msp_isa.specs.declared.registers.IndexRegister.TheVariants.{Sp, R4, R5}
use Rattle.msp_isa.specs.declared.registers.SourceRegister.TheVariants as readable
use Rattle.msp_isa.specs.declared.registers.Reg.TheVariants as reg
use Rattle.msp_isa.specs.declared.operands.Konst.TheVariants.{One}
use Rattle.msp_isa.specs.declared.operands.Operand.TheVariants.{Absolute, Increment}
use Rattle.msp_isa.specs.declared.operands.Operand.TheVariants as mode
use Rattle.msp_isa.specs.declared.operands.Src.{Src}
use Rattle.msp_isa.specs.declared.operands.Src.TheVariants.{Operand, Immediate, Constant}
use Rattle.msp_isa.specs.declared.operands.Dst.{Dst}
use Rattle.msp_isa.specs.declared.operands.Dst.TheVariants as dst
use Rattle.msp_isa.specs.declared.instructions.TwoOp.TheVariants.{Mov, Add, Sub, Cmp, And}
use Rattle.msp_isa.specs.declared.instructions.OneOp.TheVariants.{Push}
use Rattle.msp_isa.specs.declared.instructions.Condition.TheVariants.{Equal}
use Rattle.msp_isa.specs.declared.instructions.Instr.{Instr}
use Rattle.msp_isa.specs.declared.instructions.Instr.TheVariants as instr
use Rattle.msp_isa.specs.Encoding.{encoding}
use Rattle.fram_board.specs.address_space.Limits.{event_port, event_vector}
use Rattle.event_places.specs.Places.{tail_place, head_place, ring_place, ring_slots, handler_place}

-- the handler's instructions, each by what it does
pub data Stage : Type 0 where
  SaveR4 : Stage
  SaveR5 : Stage
  TakeEvent : Stage
  LoadHead : Stage
  SubtractTail : Stage
  CompareRoom : Stage
  LeaveIfFull : Stage
  LoadHeadAgain : Stage
  CutToSlots : Stage
  DoubleIndex : Stage
  StoreWord : Stage
  RaiseHead : Stage
  RestoreR5 : Stage
  RestoreR4 : Stage
  Return : Stage

abbrev register : IndexRegister → Src
register r = Operand (mode.Reg (readable.Index r))

abbrev to : IndexRegister → Dst
to r = dst.Reg (reg.Index r)

abbrev pub instruction_at : Stage → Instr
instruction_at SaveR4 = instr.One (Push Word (register R4))  -- push r4
instruction_at SaveR5 = instr.One (Push Word (register R5))  -- push r5
instruction_at TakeEvent = instr.Two Mov Word (Operand (Absolute event_port)) (to R4)  -- mov &EVENT,r4
instruction_at LoadHead = instr.Two Mov Word (Operand (Absolute head_place)) (to R5)  -- mov &HEAD,r5
instruction_at SubtractTail = instr.Two Sub Word (Operand (Absolute tail_place)) (to R5)  -- sub &TAIL,r5
instruction_at CompareRoom = instr.Two Cmp Word (Immediate ring_slots) (to R5)  -- cmp #64,r5
instruction_at LeaveIfFull = instr.Jump Equal 9  -- jeq out
instruction_at LoadHeadAgain = instr.Two Mov Word (Operand (Absolute head_place)) (to R5)  -- mov &HEAD,r5
instruction_at CutToSlots = instr.Two And Word (Immediate 63) (to R5)  -- and #63,r5
instruction_at DoubleIndex = instr.Two Add Word (register R5) (to R5)  -- add r5,r5
instruction_at StoreWord = instr.Two Mov Word (register R4) (dst.Indexed R5 ring_place)  -- mov r4,ring(r5)
instruction_at RaiseHead = instr.Two Add Word (Constant One) (dst.Absolute head_place)  -- add #1,&HEAD
instruction_at RestoreR5 = instr.Two Mov Word (Operand (Increment Sp)) (to R5)  -- out: mov @sp+,r5
instruction_at RestoreR4 = instr.Two Mov Word (Operand (Increment Sp)) (to R4)  -- mov @sp+,r4
instruction_at Return = instr.Reti  -- reti

-- they stand one after another
abbrev pub stages : List Stage
stages =
    SaveR4 ∷ SaveR5 ∷ TakeEvent ∷ LoadHead ∷ SubtractTail ∷ CompareRoom ∷ LeaveIfFull ∷ LoadHeadAgain
    ∷ CutToSlots ∷ DoubleIndex ∷ StoreWord ∷ RaiseHead ∷ RestoreR5 ∷ RestoreR4 ∷ Return ∷ []

-- the words of the instructions of stages
abbrev pub words_of_stages : List Stage → List ℕ
words_of_stages [] = []
words_of_stages (s ∷ more) = encoding (instruction_at s) ++ words_of_stages more

abbrev pub handler_words : List ℕ
handler_words = words_of_stages stages

-- how many words that are
abbrev pub handler_length : ℕ
handler_length = 23

-- the handler stands in FRAM, and the vector leads to it
pub record HasHandler (fram : ℕ → ℕ) : Type 0 where
  pub words : (k : ℕ) → k < handler_length → fram (handler_place + 2 * k) ≡ slice_index handler_words k
  pub vector : fram event_vector ≡ handler_place

-- where the instruction of a stage begins
abbrev pub place_at : Stage → ℕ
place_at SaveR4 = handler_place
place_at SaveR5 = 0xFF22
place_at TakeEvent = 0xFF24
place_at LoadHead = 0xFF28
place_at SubtractTail = 0xFF2C
place_at CompareRoom = 0xFF30
place_at LeaveIfFull = 0xFF34
place_at LoadHeadAgain = 0xFF36
place_at CutToSlots = 0xFF3A
place_at DoubleIndex = 0xFF3E
place_at StoreWord = 0xFF40
place_at RaiseHead = 0xFF44
place_at RestoreR5 = 0xFF48
place_at RestoreR4 = 0xFF4A
place_at Return = 0xFF4C
