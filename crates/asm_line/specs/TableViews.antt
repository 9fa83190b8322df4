-- The rows of the tables of names without where their texts lie in memory.
use Rattle.std.specs.Prelude.{ℕ, List}
use Rattle.std.specs.Borrow.{Bor}
use Rattle.asm_line.specs.declared.tables.OperandText.TheVariants as text
use Rattle.asm_line.specs.declared.tables.OperandText as declared
use Rattle.asm_line.specs.declared.tables.CoreText as core_text
use Rattle.asm_line.specs.Tables.{OperandText, written, fixed, CoreText}

-- an operand of a core text
abbrev pub operand_text : declared.OperandText → OperandText
operand_text text.Written = written
operand_text (text.Fixed t) = fixed t.now

-- a core text
abbrev pub core_text_of : core_text.CoreText → CoreText
core_text_of c = record { op = c.op; source = operand_text c.source; destination = operand_text c.destination }

-- a row of a table
abbrev pub row_of : {A : Type 0} → Bor (List ℕ) × A → List ℕ × A
row_of r = (r.0.now, r.1)
