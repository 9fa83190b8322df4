-- The words of each instruction (SLAU049 and SLAU144, CPU chapter): one row for each form and addressing mode.
use Rattle.std.specs.Prelude.{ℕ, ◌+◌, ◌*◌, ◌<◌, ◌≡◌, ◌≢◌, List, [], ◌∷◌, ◌++◌, slice_index, length}
use Rattle.alp_words.specs.declared.Width.{Width}
use Rattle.alp_words.specs.declared.Width.TheVariants.{Word, Byte}
use Rattle.msp_isa.specs.declared.registers.IndexRegister.{IndexRegister}
use Rattle.msp_isa.specs.declared.registers.IndexRegister.TheVariants.{Sp, R4, R5, R6, R7, R8, R9, R10, R11, R12, R13, R14, R15}
use Rattle.msp_isa.specs.declared.registers.SourceRegister.{SourceRegister}
use Rattle.msp_isa.specs.declared.registers.SourceRegister.TheVariants as readable
use Rattle.msp_isa.specs.declared.registers.IndirectRegister.{IndirectRegister}
use Rattle.msp_isa.specs.declared.registers.IndirectRegister.TheVariants as pointer
use Rattle.msp_isa.specs.declared.registers.Reg.{Reg}
use Rattle.msp_isa.specs.declared.registers.Reg.TheVariants as reg
use Rattle.msp_isa.specs.declared.operands.Konst.TheVariants as konst
use Rattle.msp_isa.specs.declared.operands.Operand.{Operand}
use Rattle.msp_isa.specs.declared.operands.Operand.TheVariants as operand
use Rattle.msp_isa.specs.declared.operands.Src.{Src}
use Rattle.msp_isa.specs.declared.operands.Src.TheVariants as src
use Rattle.msp_isa.specs.declared.operands.Dst.{Dst}
use Rattle.msp_isa.specs.declared.operands.Dst.TheVariants as dst
use Rattle.msp_isa.specs.declared.instructions.TwoOp.{TwoOp}
use Rattle.msp_isa.specs.declared.instructions.TwoOp.TheVariants.{Mov, Add, Addc, Subc, Sub, Cmp, Dadd, Bit, Bic, Bis, Xor, And}
use Rattle.msp_isa.specs.declared.instructions.OneOp.TheVariants.{Rrc, Swpb, Rra, Sxt, Push, Call}
use Rattle.msp_isa.specs.declared.instructions.Condition.{Condition}
use Rattle.msp_isa.specs.declared.instructions.Condition.TheVariants as condition
use Rattle.msp_isa.specs.declared.instructions.Instr.{Instr}
use Rattle.msp_isa.specs.declared.instructions.Instr.TheVariants as instr

-- the number of a register, R0 to R15
abbrev pub index_number : IndexRegister → ℕ
index_number Sp = 1
index_number R4 = 4
index_number R5 = 5
index_number R6 = 6
index_number R7 = 7
index_number R8 = 8
index_number R9 = 9
index_number R10 = 10
index_number R11 = 11
index_number R12 = 12
index_number R13 = 13
index_number R14 = 14
index_number R15 = 15

-- the same for a register that is read
abbrev pub source_number : SourceRegister → ℕ
source_number readable.Pc = 0
source_number readable.Sr = 2
source_number (readable.Index r) = index_number r

-- the same for a register that points to an operand
abbrev pub indirect_number : IndirectRegister → ℕ
indirect_number pointer.Pc = 0
indirect_number (pointer.Index r) = index_number r

-- the same for any register
abbrev pub register_number : Reg → ℕ
register_number reg.Pc = 0
register_number reg.Sr = 2
register_number reg.R3 = 3
register_number (reg.Index r) = index_number r

-- a row of the table of addressing modes: As or Ad, the register, and the extension word, if any
pub record Row : Type 0 where
  pub mode : ℕ
  pub register : ℕ
  pub extension : List ℕ

-- a row from its columns
abbrev pub row : ℕ → ℕ → List ℕ → Row
row m r x = record { mode = m; register = r; extension = x }

-- As, register and extension word of an operand in a register or in memory
abbrev pub operand_row : Operand → Row
operand_row (operand.Reg r) = row 0 (source_number r) []
operand_row (operand.Indexed r x) = row 1 (index_number r) (x ∷ [])
operand_row (operand.Symbolic x) = row 1 0 (x ∷ [])
operand_row (operand.Absolute a) = row 1 2 (a ∷ [])
operand_row (operand.Indirect r) = row 2 (indirect_number r) []
operand_row (operand.Increment r) = row 3 (index_number r) []

-- the same for each source operand: immediate mode is PC's increment, the constants are the modes of R2 and R3 that are left
abbrev pub source_row : Src → Row
source_row (src.Operand o) = operand_row o
source_row (src.Immediate n) = row 3 0 (n ∷ [])
source_row (src.Constant konst.Zero) = row 0 3 []
source_row (src.Constant konst.One) = row 1 3 []
source_row (src.Constant konst.Two) = row 2 3 []
source_row (src.Constant konst.MinusOne) = row 3 3 []
source_row (src.Constant konst.Four) = row 2 2 []
source_row (src.Constant konst.Eight) = row 3 2 []

-- Ad, register and extension word of a destination operand
abbrev pub destination_row : Dst → Row
destination_row (dst.Reg r) = row 0 (register_number r) []
destination_row (dst.Indexed r x) = row 1 (index_number r) (x ∷ [])
destination_row (dst.Symbolic x) = row 1 0 (x ∷ [])
destination_row (dst.Absolute a) = row 1 2 (a ∷ [])

-- bits 15 to 12 of an operation of two operands
abbrev pub opcode : TwoOp → ℕ
opcode Mov = 4
opcode Add = 5
opcode Addc = 6
opcode Subc = 7
opcode Sub = 8
opcode Cmp = 9
opcode Dadd = 0xA
opcode Bit = 0xB
opcode Bic = 0xC
opcode Bis = 0xD
opcode Xor = 0xE
opcode And = 0xF

-- bits 12 to 10 of a jump
abbrev pub condition_number : Condition → ℕ
condition_number condition.NotEqual = 0
condition_number condition.Equal = 1
condition_number condition.NoCarry = 2
condition_number condition.Carry = 3
condition_number condition.Negative = 4
condition_number condition.GreaterOrEqual = 5
condition_number condition.Less = 6
condition_number condition.Always = 7

-- bit 6, B/W
abbrev pub byte_bit : Width → ℕ
byte_bit Word = 0
byte_bit Byte = 1

-- two operands (format I): opcode, source register, Ad, B/W, As, destination register; the source's extension word comes first
abbrev pub two_encoding : ℕ → Width → Row → Row → List ℕ
two_encoding op w s d = (op * 0x1000 + s.register * 0x100 + d.mode * 0x80 + byte_bit w * 0x40 + s.mode * 0x10 + d.register) ∷ (s.extension ++ d.extension)

-- one operand (format II): the operation's bits, B/W, As, register
abbrev pub one_encoding : ℕ → Width → Row → List ℕ
one_encoding operation w r = (operation + byte_bit w * 0x40 + r.mode * 0x10 + r.register) ∷ r.extension

-- the words of an instruction
abbrev pub encoding : Instr → List ℕ
encoding (instr.Two op w s d) = two_encoding (opcode op) w (source_row s) (destination_row d)
encoding (instr.One (Rrc w o)) = one_encoding 0x1000 w (operand_row o)
encoding (instr.One (Swpb o)) = one_encoding 0x1080 Word (operand_row o)
encoding (instr.One (Rra w o)) = one_encoding 0x1100 w (operand_row o)
encoding (instr.One (Sxt o)) = one_encoding 0x1180 Word (operand_row o)
encoding (instr.One (Push w s)) = one_encoding 0x1200 w (source_row s)
encoding (instr.One (Call s)) = one_encoding 0x1280 Word (source_row s)
encoding (instr.Jump c offset) = (0x2000 + condition_number c * 0x400 + offset) ∷ []
encoding instr.Reti = 0x1300 ∷ []

-- the word that an instruction begins with
abbrev pub first_word : Instr → ℕ
first_word i = slice_index (encoding i) 0

-- xs stand at the front of ys
abbrev pub IsPrefix : List ℕ → List ℕ → Type 0
IsPrefix [] ys = Unit {0}
IsPrefix (x ∷ xs) [] = ⊥
IsPrefix (x ∷ xs) (y ∷ ys) = (x ≡ y) × IsPrefix xs ys

-- a proof's instruction holds any number as its offset; the machine's have ten bits
abbrev pub IsInstruction : Instr → Type 0
IsInstruction (instr.Jump c offset) = offset < 0x400
IsInstruction (instr.Two op w s d) = Unit {0}
IsInstruction (instr.One one) = Unit {0}
IsInstruction instr.Reti = Unit {0}

-- a word that begins no instruction
abbrev pub IsIllegal : ℕ → Type 0
IsIllegal w = (i : Instr) → IsInstruction i → first_word i ≢ w

-- the row has this mode and this register
abbrev pub HasFields : Row → ℕ → ℕ → Type 0
HasFields r mode register = (r.mode ≡ mode) × (r.register ≡ register)

-- the words begin with this instruction, which takes so many of them
abbrev pub BeginsWith : List ℕ → Instr → ℕ → Type 0
BeginsWith ws i n = IsPrefix (encoding i) ws × (n ≡ length (encoding i))
