-- The cycles of each instruction by form and addressing mode, after the tables of SLAU049 and SLAU144 (CPU chapter, instruction cycles and lengths).
use Rattle.std.specs.Prelude.{ℕ}
use Rattle.msp_isa.specs.declared.registers.Reg.TheVariants as reg
use Rattle.msp_isa.specs.declared.operands.Operand.{Operand}
use Rattle.msp_isa.specs.declared.operands.Operand.TheVariants as operand
use Rattle.msp_isa.specs.declared.operands.Src.{Src}
use Rattle.msp_isa.specs.declared.operands.Src.TheVariants as src
use Rattle.msp_isa.specs.declared.operands.Dst.{Dst}
use Rattle.msp_isa.specs.declared.operands.Dst.TheVariants as dst
use Rattle.msp_isa.specs.declared.instructions.OneOp.TheVariants.{Rrc, Swpb, Rra, Sxt, Push, Call}
use Rattle.msp_isa.specs.declared.instructions.Instr.{Instr}
use Rattle.msp_isa.specs.declared.instructions.Instr.TheVariants as instr

-- a row of the table: the cycles for each source, where a constant counts as a register
pub record CycleRow : Type 0 where
  pub register : ℕ
  pub indirect : ℕ
  pub increment : ℕ
  pub immediate : ℕ
  pub indexed : ℕ
  pub symbolic : ℕ
  pub absolute : ℕ

-- a row from its columns: Rn or a constant, @Rn, @Rn+, #N, X(Rn), symbolic, absolute
abbrev pub cycle_row : ℕ → ℕ → ℕ → ℕ → ℕ → ℕ → ℕ → CycleRow
cycle_row r i p n x s a = record { register = r; indirect = i; increment = p; immediate = n; indexed = x; symbolic = s; absolute = a }

-- the column of an operand in a register or in memory
abbrev pub operand_cycles : CycleRow → Operand → ℕ
operand_cycles c (operand.Reg r) = c.register
operand_cycles c (operand.Indexed r x) = c.indexed
operand_cycles c (operand.Symbolic x) = c.symbolic
operand_cycles c (operand.Absolute a) = c.absolute
operand_cycles c (operand.Indirect r) = c.indirect
operand_cycles c (operand.Increment r) = c.increment

-- the column of a source operand
abbrev pub source_cycles : CycleRow → Src → ℕ
source_cycles c (src.Operand o) = operand_cycles c o
source_cycles c (src.Immediate n) = c.immediate
source_cycles c (src.Constant k) = c.register

-- two operands, to a register other than PC
abbrev pub to_register : CycleRow
to_register = cycle_row 1 2 2 2 3 3 3

-- two operands, to PC
abbrev pub to_pc : CycleRow
to_pc = cycle_row 2 2 3 3 3 3 3

-- two operands, to memory
abbrev pub to_memory : CycleRow
to_memory = cycle_row 4 5 5 5 6 6 6

-- RRC, RRA, SWPB, SXT, which take no immediate
abbrev pub read_modify_write : CycleRow
read_modify_write = cycle_row 1 3 3 0 4 4 4

-- PUSH
abbrev pub push : CycleRow
push = cycle_row 3 4 5 4 5 5 5

-- CALL
abbrev pub call : CycleRow
call = cycle_row 4 4 5 5 5 5 5

-- the row of two operands for a destination
abbrev pub destination_cycles : Dst → CycleRow
destination_cycles (dst.Reg reg.Pc) = to_pc
destination_cycles (dst.Reg reg.Sr) = to_register
destination_cycles (dst.Reg reg.R3) = to_register
destination_cycles (dst.Reg (reg.Index r)) = to_register
destination_cycles (dst.Indexed r x) = to_memory
destination_cycles (dst.Symbolic x) = to_memory
destination_cycles (dst.Absolute a) = to_memory

-- the cycles of an instruction; a jump takes 2 whether it is taken or not
abbrev pub cycles_of : Instr → ℕ
cycles_of (instr.Two op w s d) = source_cycles (destination_cycles d) s
cycles_of (instr.One (Rrc w o)) = operand_cycles read_modify_write o
cycles_of (instr.One (Swpb o)) = operand_cycles read_modify_write o
cycles_of (instr.One (Rra w o)) = operand_cycles read_modify_write o
cycles_of (instr.One (Sxt o)) = operand_cycles read_modify_write o
cycles_of (instr.One (Push w s)) = source_cycles push s
cycles_of (instr.One (Call s)) = source_cycles call s
cycles_of (instr.Jump c offset) = 2
cycles_of instr.Reti = 5
