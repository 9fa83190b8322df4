-- An operand without where its names lie in memory.
use Rattle.std.specs.Prelude.{Option, option_map}
use Rattle.asm_line.specs.declared.operands.Written.{Written}
use Rattle.asm_line.specs.declared.operands.Written.TheVariants as written
use Rattle.asm_line.specs.declared.values.Value.{Value}
use Rattle.asm_line.specs.Operands.{OperandMeaning, register, immediate, indexed, symbolic, absolute, indirect, increment, Open}
use Rattle.asm_line.specs.ValueViews.{meaning_of}

-- what an operand means
abbrev pub operand_meaning : Written → OperandMeaning
operand_meaning (written.Register r) = register r
operand_meaning (written.Immediate v) = immediate (meaning_of v)
operand_meaning (written.Indexed v r) = indexed (meaning_of v) r
operand_meaning (written.Symbolic v) = symbolic (meaning_of v)
operand_meaning (written.Absolute v) = absolute (meaning_of v)
operand_meaning (written.Indirect r) = indirect r
operand_meaning (written.Increment r) = increment r

-- an operand with its value, as contracts see it
abbrev pub open_of : {A : Type 0} → A × Option Value → Open A
open_of o = (o.0, option_map meaning_of o.1)
