-- The words of a line that needs no label.
use Rattle.std.specs.Prelude.{ℕ, List, Option, Some, None}
use Rattle.msp_isa.specs.Encoding.{encoding}
use Rattle.msp_isa.specs.declared.instructions.Instr.TheVariants as instr
use Rattle.asm_line.specs.Numbers.{◌>>?◌}
use Rattle.asm_line.specs.Pieces.{Located}
use Rattle.asm_line.specs.Values.{ValueMeaning, number, out_of_range, label, here}
use Rattle.asm_line.specs.Lines.{StatementMeaning, nothing, org, words, jump, instruction, LineMeaning, line_of}
use Rattle.asm_line.specs.Filling.{fill, offset_to}

-- a number in range
abbrev pub plain_value : ValueMeaning → Option ℕ
plain_value (number n) = Some n
plain_value (out_of_range n) = None
plain_value (label p) = None
plain_value here = None

-- the value of an operand; one that has none isn't asked for it
abbrev pub plain_operand : Option ValueMeaning → Option ℕ
plain_operand None = Some 0
plain_operand (Some v) = plain_value v

-- the words of an instruction or a jump at an address, whose values are numbers in range
abbrev pub statement_alone : ℕ → StatementMeaning → Option (List ℕ)
statement_alone a nothing = None
statement_alone a (org v) = None
statement_alone a (words vs) = None
statement_alone a (jump c v) = plain_value v >>? λ n. offset_to a n >>? λ bits. Some (encoding (instr.Jump c bits))
statement_alone a (instruction t) = plain_operand t.source >>? λ x. plain_operand t.destination >>? λ y. Some (encoding (fill a x y t.instr))

-- nothing where the line has a label
abbrev pub without_label : Option Located → Option (List ℕ) → Option (List ℕ)
without_label None ws = ws
without_label (Some name) ws = None

-- the words of a line that needs no label, at an address
abbrev pub meaning_alone : ℕ → LineMeaning → Option (List ℕ)
meaning_alone a l = without_label l.label (statement_alone a l.statement)

-- the words of a line with an instruction, with no label of its own and none that it names
unfoldable pub line_alone : ℕ → List ℕ → Option (List ℕ)
line_alone a text = line_of (record { at = 0; text = text }) >>? meaning_alone a
