-- The instructions of forms, and how long they are (SLAU049 and SLAU144, CPU chapter).
use Rattle.std.specs.Prelude.{ℕ, ◌+◌}
use Rattle.address_space.specs.Limits.{sensor_port, number_port, data_port}
use Rattle.event_places.specs.Places.{head_place, ring_place}
use Rattle.msp_isa.specs.alp_words.declared.Width.TheVariants.{Word}
use Rattle.msp_isa.specs.declared.registers.IndexRegister.{IndexRegister}
use Rattle.msp_isa.specs.declared.registers.IndexRegister.TheVariants as index
use Rattle.msp_isa.specs.declared.registers.SourceRegister.TheVariants as source_register
use Rattle.msp_isa.specs.declared.registers.IndirectRegister.TheVariants as pointer
use Rattle.msp_isa.specs.declared.registers.Reg.TheVariants as reg
use Rattle.msp_isa.specs.declared.operands.Konst.TheVariants as konst
use Rattle.msp_isa.specs.declared.operands.Operand.TheVariants as mode
use Rattle.msp_isa.specs.declared.operands.Src.{Src}
use Rattle.msp_isa.specs.declared.operands.Src.TheVariants as src
use Rattle.msp_isa.specs.declared.operands.Dst.{Dst}
use Rattle.msp_isa.specs.declared.operands.Dst.TheVariants as dst
use Rattle.msp_isa.specs.declared.instructions.TwoOp.TheVariants.{Mov, Add, Cmp, Bis}
use Rattle.msp_isa.specs.declared.instructions.OneOp.{OneOp}
use Rattle.msp_isa.specs.declared.instructions.OneOp.TheVariants as one
use Rattle.msp_isa.specs.declared.instructions.Instr.{Instr}
use Rattle.msp_isa.specs.declared.instructions.Instr.TheVariants as instr
use Rattle.instruction_forms.specs.declared.kinds.WorkRegister.{WorkRegister}
use Rattle.instruction_forms.specs.declared.kinds.WorkRegister.TheVariants.{R4, R5, R6, R7, R8, R9, R10, R11, R12, R13, R14, R15}
use Rattle.instruction_forms.specs.declared.kinds.Source.{Source}
use Rattle.instruction_forms.specs.declared.kinds.Source.TheVariants.{Register, Number, Constant, Fram, Ram, Pointed, PointedNext, Indexed, Popped, StackNext}
use Rattle.instruction_forms.specs.declared.kinds.Source.TheVariants.{Head, Slot}
use Rattle.instruction_forms.specs.declared.kinds.Target.{Target}
use Rattle.instruction_forms.specs.declared.kinds.Target.TheVariants.{ToRegister, ToFram, ToRam, ToIndexed, ToPointed, ToOutnum, ToOutdata}
use Rattle.instruction_forms.specs.declared.kinds.Modification.{Modification}
use Rattle.instruction_forms.specs.declared.kinds.Modification.TheVariants.{Rrc, Rra, Swpb, Sxt}
use Rattle.instruction_forms.specs.declared.kinds.Form.{Form}
use Rattle.instruction_forms.specs.declared.kinds.Form.TheVariants.{Move, Calculate, Compare, Update, Push, Modify, SetStack, Sense, Jump, Skip, Branch}
use Rattle.instruction_forms.specs.declared.kinds.Form.TheVariants.{EnableInterrupts, BranchIndexed, SkipBy, Call, Return, KeepStack, RestoreStack}

-- a register for work among those that an addressing mode can name
abbrev pub index_of : WorkRegister → IndexRegister
index_of R4 = index.R4
index_of R5 = index.R5
index_of R6 = index.R6
index_of R7 = index.R7
index_of R8 = index.R8
index_of R9 = index.R9
index_of R10 = index.R10
index_of R11 = index.R11
index_of R12 = index.R12
index_of R13 = index.R13
index_of R14 = index.R14
index_of R15 = index.R15

-- a source as an operand
abbrev pub source_operand : Source → Src
source_operand (Register b) = src.Operand (mode.Reg (source_register.Index (index_of b)))
source_operand (Number n) = src.Immediate n
source_operand (Constant k) = src.Constant k
source_operand (Fram a) = src.Operand (mode.Absolute a)
source_operand (Ram a) = src.Operand (mode.Absolute a)
source_operand (Pointed b) = src.Operand (mode.Indirect (pointer.Index (index_of b)))
source_operand (PointedNext b) = src.Operand (mode.Increment (index_of b))
source_operand (Indexed b x) = src.Operand (mode.Indexed (index_of b) x)
source_operand Popped = src.Operand (mode.Increment index.Sp)
source_operand (StackNext b) = src.Operand (mode.Increment (index_of b))
source_operand Head = src.Operand (mode.Absolute head_place)
source_operand (Slot b) = src.Operand (mode.Indexed (index_of b) ring_place)

-- the bytes of its extension word
abbrev pub source_bytes : Source → ℕ
source_bytes (Register b) = 0
source_bytes (Number n) = 2
source_bytes (Constant k) = 0
source_bytes (Fram a) = 2
source_bytes (Ram a) = 2
source_bytes (Pointed b) = 0
source_bytes (PointedNext b) = 0
source_bytes (Indexed b x) = 2
source_bytes Popped = 0
source_bytes (StackNext b) = 0
source_bytes Head = 2
source_bytes (Slot b) = 2

-- a target of MOV as an operand
abbrev pub target_operand : Target → Dst
target_operand (ToRegister b) = dst.Reg (reg.Index (index_of b))
target_operand (ToFram a) = dst.Absolute a
target_operand (ToRam a) = dst.Absolute a
target_operand (ToIndexed b x) = dst.Indexed (index_of b) x
target_operand (ToPointed b) = dst.Indexed (index_of b) 0
target_operand ToOutnum = dst.Absolute number_port
target_operand ToOutdata = dst.Absolute data_port

-- the bytes of its extension word
abbrev pub target_bytes : Target → ℕ
target_bytes (ToRegister b) = 0
target_bytes _ = 2

-- RRC, RRA, SWPB or SXT of a register
abbrev pub modification_operand : Modification → WorkRegister → OneOp
modification_operand Rrc b = one.Rrc Word (mode.Reg (source_register.Index (index_of b)))
modification_operand Rra b = one.Rra Word (mode.Reg (source_register.Index (index_of b)))
modification_operand Swpb b = one.Swpb (mode.Reg (source_register.Index (index_of b)))
modification_operand Sxt b = one.Sxt (mode.Reg (source_register.Index (index_of b)))

-- a form as an instruction
abbrev pub instruction_of : Form → Instr
instruction_of (Move x y) = instr.Two Mov Word (source_operand x) (target_operand y)
instruction_of (Calculate op x b) = instr.Two op Word (source_operand x) (dst.Reg (reg.Index (index_of b)))
instruction_of (Compare x a) = instr.Two Cmp Word (source_operand x) (dst.Absolute a)
instruction_of (Update op x a) = instr.Two op Word (source_operand x) (dst.Absolute a)
instruction_of (Push x) = instr.One (one.Push Word (source_operand x))
instruction_of (Modify m b) = instr.One (modification_operand m b)
instruction_of (SetStack n) = instr.Two Mov Word (src.Immediate n) (dst.Reg (reg.Index index.Sp))
instruction_of EnableInterrupts = instr.Two Bis Word (src.Constant konst.Eight) (dst.Reg reg.Sr)
instruction_of (Sense b) = instr.Two Mov Word (src.Operand (mode.Absolute sensor_port)) (dst.Reg (reg.Index (index_of b)))
instruction_of (Jump c offset) = instr.Jump c offset
instruction_of (Skip n) = instr.Two Add Word (src.Immediate n) (dst.Reg reg.Pc)
instruction_of (Branch a) = instr.Two Mov Word (src.Immediate a) (dst.Reg reg.Pc)
instruction_of (BranchIndexed b x) = instr.Two Mov Word (src.Operand (mode.Indexed (index_of b) x)) (dst.Reg reg.Pc)
instruction_of (SkipBy b) = instr.Two Add Word (src.Operand (mode.Reg (source_register.Index (index_of b)))) (dst.Reg reg.Pc)
instruction_of (Call a) = instr.One (one.Call (src.Immediate a))
instruction_of Return = instr.Two Mov Word (src.Operand (mode.Increment index.Sp)) (dst.Reg reg.Pc)
instruction_of (KeepStack b) = instr.Two Mov Word (src.Operand (mode.Reg (source_register.Index index.Sp))) (dst.Reg (reg.Index (index_of b)))
instruction_of RestoreStack = instr.Two Mov Word (src.Operand (mode.Increment index.Sp)) (dst.Reg (reg.Index index.Sp))

-- its length in bytes
abbrev pub form_bytes : Form → ℕ
form_bytes (Move x y) = 2 + source_bytes x + target_bytes y
form_bytes (Calculate op x b) = 2 + source_bytes x
form_bytes (Compare x a) = 2 + source_bytes x + 2
form_bytes (Update op x a) = 2 + source_bytes x + 2
form_bytes (Push x) = 2 + source_bytes x
form_bytes (Modify m b) = 2
form_bytes (SetStack n) = 4
form_bytes EnableInterrupts = 2
form_bytes (Sense b) = 4
form_bytes (Jump c offset) = 2
form_bytes (Skip n) = 4
form_bytes (Branch a) = 4
form_bytes (BranchIndexed b x) = 4
form_bytes (SkipBy b) = 2
form_bytes (Call a) = 4
form_bytes Return = 2
form_bytes (KeepStack b) = 2
form_bytes RestoreStack = 2
