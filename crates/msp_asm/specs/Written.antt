-- The text of an instruction: its core form, with targets and symbolic operands as addresses.
use Rattle.std.specs.Prelude.{ℕ, ◌+◌, ◌%◌, List, [], ◌++◌, length, codes}
use Rattle.msp_isa.specs.alp_words.declared.Width.{Width}
use Rattle.msp_isa.specs.alp_words.declared.Width.TheVariants.{Word, Byte}
use Rattle.msp_isa.specs.Constant.{constant_value}
use Rattle.msp_isa.specs.Encoding.{source_row}
use Rattle.msp_isa.specs.declared.registers.IndexRegister.{IndexRegister}
use Rattle.msp_isa.specs.declared.registers.IndexRegister.TheVariants.{Sp, R4, R5, R6, R7, R8, R9, R10, R11, R12, R13, R14, R15}
use Rattle.msp_isa.specs.declared.registers.SourceRegister.{SourceRegister}
use Rattle.msp_isa.specs.declared.registers.SourceRegister.TheVariants as readable
use Rattle.msp_isa.specs.declared.registers.IndirectRegister.{IndirectRegister}
use Rattle.msp_isa.specs.declared.registers.IndirectRegister.TheVariants as pointer
use Rattle.msp_isa.specs.declared.registers.Reg.{Reg}
use Rattle.msp_isa.specs.declared.registers.Reg.TheVariants as reg
use Rattle.msp_isa.specs.declared.operands.Operand.{Operand}
use Rattle.msp_isa.specs.declared.operands.Operand.TheVariants as operand
use Rattle.msp_isa.specs.declared.operands.Src.{Src}
use Rattle.msp_isa.specs.declared.operands.Src.TheVariants as src
use Rattle.msp_isa.specs.declared.operands.Dst.{Dst}
use Rattle.msp_isa.specs.declared.operands.Dst.TheVariants as dst
use Rattle.msp_isa.specs.declared.instructions.TwoOp.{TwoOp}
use Rattle.msp_isa.specs.declared.instructions.TwoOp.TheVariants.{Mov, Add, Addc, Subc, Sub, Cmp, Dadd, Bit, Bic, Bis, Xor, And}
use Rattle.msp_isa.specs.declared.instructions.OneOp.{OneOp}
use Rattle.msp_isa.specs.declared.instructions.OneOp.TheVariants.{Rrc, Swpb, Rra, Sxt, Push, Call}
use Rattle.msp_isa.specs.declared.instructions.Condition.{Condition}
use Rattle.msp_isa.specs.declared.instructions.Condition.TheVariants as condition
use Rattle.msp_isa.specs.declared.instructions.Instr.{Instr}
use Rattle.msp_isa.specs.declared.instructions.Instr.TheVariants as instr
use Rattle.image_text.specs.Text.{upper_hex4}
use Rattle.asm_line.specs.Filling.{words_on, jump_target}

-- `0x` and four upper-case digits
unfoldable pub number_text : ℕ → List ℕ
number_text w = codes "0x" ++ upper_hex4 w

-- a register's name: `sp`, or `rN`
abbrev pub index_text : IndexRegister → List ℕ
index_text Sp = codes "sp"
index_text R4 = codes "r4"
index_text R5 = codes "r5"
index_text R6 = codes "r6"
index_text R7 = codes "r7"
index_text R8 = codes "r8"
index_text R9 = codes "r9"
index_text R10 = codes "r10"
index_text R11 = codes "r11"
index_text R12 = codes "r12"
index_text R13 = codes "r13"
index_text R14 = codes "r14"
index_text R15 = codes "r15"

-- the same for a register that is read
abbrev pub readable_text : SourceRegister → List ℕ
readable_text readable.Pc = codes "pc"
readable_text readable.Sr = codes "sr"
readable_text (readable.Index r) = index_text r

-- the same for a register that points to an operand
abbrev pub pointer_text : IndirectRegister → List ℕ
pointer_text pointer.Pc = codes "pc"
pointer_text (pointer.Index r) = index_text r

-- the same for any register
abbrev pub register_text : Reg → List ℕ
register_text reg.Pc = codes "pc"
register_text reg.Sr = codes "sr"
register_text reg.R3 = codes "r3"
register_text (reg.Index r) = index_text r

-- indexed mode: `X(rN)`
abbrev pub indexed_text : ℕ → IndexRegister → List ℕ
indexed_text x r = number_text x ++ codes "(" ++ index_text r ++ codes ")"

-- an operand whose extension word, if it has one, stands at a
unfoldable pub operand_text : ℕ → Operand → List ℕ
operand_text a (operand.Reg r) = readable_text r
operand_text a (operand.Indexed r x) = indexed_text x r
operand_text a (operand.Symbolic x) = number_text ((a + x) % 65536)
operand_text a (operand.Absolute x) = codes "&" ++ number_text x
operand_text a (operand.Indirect r) = codes "@" ++ pointer_text r
operand_text a (operand.Increment r) = codes "@" ++ index_text r ++ codes "+"

-- a source operand whose extension word, if it has one, stands at a
abbrev pub source_text : ℕ → Src → List ℕ
source_text a (src.Operand o) = operand_text a o
source_text a (src.Immediate n) = codes "#" ++ number_text n
source_text a (src.Constant k) = codes "#" ++ number_text (constant_value k)

-- a destination operand whose extension word, if it has one, stands at a
unfoldable pub destination_text : ℕ → Dst → List ℕ
destination_text a (dst.Reg r) = register_text r
destination_text a (dst.Indexed r x) = indexed_text x r
destination_text a (dst.Symbolic x) = number_text ((a + x) % 65536)
destination_text a (dst.Absolute x) = codes "&" ++ number_text x

-- the name of an operation of two operands
abbrev pub two_text : TwoOp → List ℕ
two_text Mov = codes "mov"
two_text Add = codes "add"
two_text Addc = codes "addc"
two_text Subc = codes "subc"
two_text Sub = codes "sub"
two_text Cmp = codes "cmp"
two_text Dadd = codes "dadd"
two_text Bit = codes "bit"
two_text Bic = codes "bic"
two_text Bis = codes "bis"
two_text Xor = codes "xor"
two_text And = codes "and"

-- the name of a jump
abbrev pub condition_text : Condition → List ℕ
condition_text condition.NotEqual = codes "jne"
condition_text condition.Equal = codes "jeq"
condition_text condition.NoCarry = codes "jnc"
condition_text condition.Carry = codes "jc"
condition_text condition.Negative = codes "jn"
condition_text condition.GreaterOrEqual = codes "jge"
condition_text condition.Less = codes "jl"
condition_text condition.Always = codes "jmp"

-- `.b` behind a byte form, and nothing behind a word form
abbrev pub width_text : Width → List ℕ
width_text Word = []
width_text Byte = codes ".b"

-- an operation of one operand whose extension word, if it has one, stands at a
abbrev pub one_text : ℕ → OneOp → List ℕ
one_text a (Rrc w o) = codes "rrc" ++ width_text w ++ codes " " ++ operand_text a o
one_text a (Swpb o) = codes "swpb " ++ operand_text a o
one_text a (Rra w o) = codes "rra" ++ width_text w ++ codes " " ++ operand_text a o
one_text a (Sxt o) = codes "sxt " ++ operand_text a o
one_text a (Push w s) = codes "push" ++ width_text w ++ codes " " ++ source_text a s
one_text a (Call s) = codes "call " ++ source_text a s

-- the text of an instruction at an address
unfoldable pub instr_text : ℕ → Instr → List ℕ
instr_text a (instr.Two op w s d) = two_text op ++ width_text w ++ codes " " ++ source_text (words_on 1 a) s
    ++ codes "," ++ destination_text (words_on (1 + length (source_row s).extension) a) d
instr_text a (instr.One op) = one_text (words_on 1 a) op
instr_text a (instr.Jump c bits) = condition_text c ++ codes " " ++ number_text (jump_target a bits)
instr_text a instr.Reti = codes "reti"
