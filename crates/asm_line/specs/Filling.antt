-- The values of operands put into an instruction, and how far a jump goes (SLAU144, CPU chapter, addressing modes and jumps).
use Rattle.std.specs.Prelude.{ℕ, ◌+◌, ◌-◌, ◌*◌, ◌/◌, ◌%◌, ◌==◌, ◌&&◌, ◌||◌, nat_lt, nat_le, if◌then◌else◌, length, Option, Some, None}
use Rattle.msp_isa.specs.declared.operands.Operand.{Operand}
use Rattle.msp_isa.specs.declared.operands.Operand.TheVariants as operand
use Rattle.msp_isa.specs.declared.operands.Src.{Src}
use Rattle.msp_isa.specs.declared.operands.Src.TheVariants as src
use Rattle.msp_isa.specs.declared.operands.Dst.{Dst}
use Rattle.msp_isa.specs.declared.operands.Dst.TheVariants as dst
use Rattle.msp_isa.specs.declared.instructions.OneOp.{OneOp}
use Rattle.msp_isa.specs.declared.instructions.OneOp.TheVariants as one_op
use Rattle.msp_isa.specs.declared.instructions.Instr.{Instr}
use Rattle.msp_isa.specs.declared.instructions.Instr.TheVariants as instr
use Rattle.msp_isa.specs.Encoding.{source_row}

-- the address n words behind another
abbrev pub words_on : ℕ → ℕ → ℕ
words_on n a = (a + 2 * n) % 65536

-- a value that is addressed from the extension word that holds it, at a
abbrev pub relative : ℕ → ℕ → ℕ
relative a v = (v + 65536 - a) % 65536

-- an operand with a value in its extension word, which stands at a
abbrev pub fill_operand : ℕ → ℕ → Operand → Operand
fill_operand a v (operand.Reg r) = operand.Reg r
fill_operand a v (operand.Indexed r x) = operand.Indexed r v
fill_operand a v (operand.Symbolic x) = operand.Symbolic (relative a v)
fill_operand a v (operand.Absolute x) = operand.Absolute v
fill_operand a v (operand.Indirect r) = operand.Indirect r
fill_operand a v (operand.Increment r) = operand.Increment r

-- a source operand with a value in its extension word, if it takes one
abbrev pub fill_source : ℕ → ℕ → Src → Src
fill_source a v (src.Operand o) = src.Operand (fill_operand a v o)
fill_source a v (src.Immediate n) = src.Immediate v
fill_source a v (src.Constant k) = src.Constant k

-- the same for a destination operand
abbrev pub fill_destination : ℕ → ℕ → Dst → Dst
fill_destination a v (dst.Reg r) = dst.Reg r
fill_destination a v (dst.Indexed r x) = dst.Indexed r v
fill_destination a v (dst.Symbolic x) = dst.Symbolic (relative a v)
fill_destination a v (dst.Absolute x) = dst.Absolute v

-- the same for an operation of one operand
abbrev pub fill_one : ℕ → ℕ → OneOp → OneOp
fill_one a v (one_op.Rrc w o) = one_op.Rrc w (fill_operand a v o)
fill_one a v (one_op.Swpb o) = one_op.Swpb (fill_operand a v o)
fill_one a v (one_op.Rra w o) = one_op.Rra w (fill_operand a v o)
fill_one a v (one_op.Sxt o) = one_op.Sxt (fill_operand a v o)
fill_one a v (one_op.Push w s) = one_op.Push w (fill_source a v s)
fill_one a v (one_op.Call s) = one_op.Call (fill_source a v s)

-- the instruction at an address with the values of its source and its destination, of which the source's extension word comes first
abbrev pub fill : ℕ → ℕ → ℕ → Instr → Instr
fill a x y (instr.Two op w s d) = instr.Two op w (fill_source (words_on 1 a) x s) (fill_destination (words_on (1 + length (source_row s).extension) a) y d)
fill a x y (instr.One op) = instr.One (fill_one (words_on 1 a) x op)
fill a x y (instr.Jump c o) = instr.Jump c o
fill a x y instr.Reti = instr.Reti

-- where a jump at an address goes, by the ten bits of its offset: from 512 on they are the offset plus 1024, and 63488 is 65536 - 2 * 1024
abbrev pub jump_target : ℕ → ℕ → ℕ
jump_target a bits = (a + 2 + 2 * bits + (if nat_lt bits 512 then 0 else 63488)) % 65536

-- how many bytes a target lies behind the jump's next instruction
abbrev pub distance : ℕ → ℕ → ℕ
distance a target = (target + 131070 - a) % 65536

-- the ten bits of the offset of a jump at an address to a target, if an offset from -512 to 511 reaches it
unfoldable pub offset_to : ℕ → ℕ → Option ℕ
offset_to a target = if (distance a target % 2 == 0) && (nat_lt (distance a target) 1024 || nat_le 64512 (distance a target))
    then Some (distance a target / 2 % 1024) else None
