-- What one line of an assembler text says: `[label:] [operation operands] [; comment]`.
use Rattle.std.specs.Prelude.{ℕ, ◌-◌, ◌==◌, ◌&&◌, ◌||◌, Bool, true, false, nat_le, if◌then◌else◌, List, [], ◌∷◌, length, take, slice_index, Option, Some}
use Rattle.std.specs.Prelude.{None, is_some, codes}
use Rattle.std.specs.Str.{str_eq_ignore_ascii_case}
use Rattle.text_parts.specs.Fields.{fields, no_fields}
use Rattle.msp_isa.specs.alp_words.declared.Width.{Width}
use Rattle.msp_isa.specs.alp_words.declared.Width.TheVariants.{Word, Byte}
use Rattle.msp_isa.specs.declared.operands.Operand.{Operand}
use Rattle.msp_isa.specs.declared.operands.Src.{Src}
use Rattle.msp_isa.specs.declared.operands.Src.TheVariants as src
use Rattle.msp_isa.specs.declared.instructions.TwoOp.{TwoOp}
use Rattle.msp_isa.specs.declared.instructions.OneOp.{OneOp}
use Rattle.msp_isa.specs.declared.instructions.OneOp.TheVariants as one_op
use Rattle.msp_isa.specs.declared.instructions.Condition.{Condition}
use Rattle.msp_isa.specs.declared.instructions.Instr.{Instr}
use Rattle.msp_isa.specs.declared.instructions.Instr.TheVariants as instr
use Rattle.asm_line.specs.declared.tables.OneName.{OneName}
use Rattle.asm_line.specs.declared.tables.OneName.TheVariants as one
use Rattle.asm_line.specs.Numbers.{◌>>?◌}
use Rattle.asm_line.specs.Pieces.{Located, before_mark, behind_mark, without_blanks, word, behind_word, only_word, parts}
use Rattle.asm_line.specs.Values.{ValueMeaning, number, out_of_range, label, here, value_of, is_label}
use Rattle.asm_line.specs.Operands.{source_of, destination_of}
use Rattle.asm_line.specs.Tables.{OperandText, written, fixed, CoreText, two_named, one_named, condition_named, emulated_named}

-- an instruction in which the values of its operands are still 0, and these values
pub record TemplateMeaning : Type 0 where
  pub instr : Instr
  pub source : Option ValueMeaning
  pub destination : Option ValueMeaning

-- nothing; `.org` and its number; `.word` and its values; a jump to a value; another instruction
pub data StatementMeaning : Type 0 where
  nothing : StatementMeaning
  org : ValueMeaning → StatementMeaning
  words : List ValueMeaning → StatementMeaning
  jump : Condition → ValueMeaning → StatementMeaning
  instruction : TemplateMeaning → StatementMeaning

-- a label, if the line has one, and what the line does beside it
pub record LineMeaning : Type 0 where
  pub label : Option Located
  pub statement : StatementMeaning

-- `.b` or `.w` at the end of a name; without them the width isn't said
abbrev pub suffix_width : ℕ → Option Width
suffix_width b = if (b == 98) || (b == 66) then Some Byte else (if (b == 119) || (b == 87) then Some Word else None)

-- whether a dot stands before the last byte
abbrev pub ends_dotted : List ℕ → Bool
ends_dotted name = nat_le 2 (length name) && (slice_index name (length name - 2) == 46)

-- the width that the suffix of a name says, if there is one
unfoldable pub suffix_of : List ℕ → Option Width
suffix_of name = if ends_dotted name then suffix_width (slice_index name (length name - 1)) else None

-- a name without its suffix, which is two bytes long
abbrev pub without : Option Width → List ℕ → List ℕ
without None name = name
without (Some w) name = take (length name - 2) name

-- the name of an operation, without its suffix
unfoldable pub base_name : List ℕ → List ℕ
base_name name = without (suffix_of name) name

-- an operation without a suffix works on words
abbrev pub width_of : Option Width → Width
width_of None = Word
width_of (Some w) = w

-- only `.w` may stand behind an operation that has a word form alone
abbrev pub is_word_form : Option Width → Bool
is_word_form None = true
is_word_form (Some Word) = true
is_word_form (Some Byte) = false

-- an instruction of two operands
unfoldable pub two_of : TwoOp → Option Width → Located → Located → Option StatementMeaning
two_of op w s d = source_of s >>? λ s. destination_of d >>? λ d.
    Some (instruction (record { instr = instr.Two op (width_of w) s.0 d.0; source = s.1; destination = d.1 }))

-- an operand that is no constant and no immediate
abbrev pub in_place : Src → Option Operand
in_place (src.Operand o) = Some o
in_place (src.Immediate n) = None
in_place (src.Constant k) = None

-- an operation that has a word form alone
abbrev pub if_word_form : Option Width → OneOp → Option OneOp
if_word_form w op = if is_word_form w then Some op else None

-- an operation of one operand, if it takes this suffix and this operand
abbrev pub one_op_of : OneName → Option Width → Src → Option OneOp
one_op_of one.Rrc w s = in_place s >>? λ o. Some (one_op.Rrc (width_of w) o)
one_op_of one.Rra w s = in_place s >>? λ o. Some (one_op.Rra (width_of w) o)
one_op_of one.Swpb w s = in_place s >>? λ o. if_word_form w (one_op.Swpb o)
one_op_of one.Sxt w s = in_place s >>? λ o. if_word_form w (one_op.Sxt o)
one_op_of one.Push w s = Some (one_op.Push (width_of w) s)
one_op_of one.Call w s = if_word_form w (one_op.Call s)

-- an instruction of one operand
unfoldable pub one_of : OneName → Option Width → Located → Option StatementMeaning
one_of name w p = source_of p >>? λ s. one_op_of name w s.0 >>? λ op.
    Some (instruction (record { instr = instr.One op; source = s.1; destination = None }))

-- two operands with a comma between
abbrev pub two_words : TwoOp → Option Width → Located → Option Located → Option StatementMeaning
two_words op w first None = None
two_words op w first (Some second) = only_word first >>? λ s. only_word second >>? λ d. two_of op w s d

-- an operand of a core text, where this one is written
abbrev pub place : OperandText → Located → Located
place written p = p
place (fixed text) p = record { at = 0; text = text }

-- whether an operand of a core text is the one that is written
abbrev pub is_written : OperandText → Bool
is_written written = true
is_written (fixed text) = false

-- whether a suffix may stand behind an emulated operation: where its destination is written
abbrev pub takes_suffix : CoreText → Option Width → Bool
takes_suffix c None = true
takes_suffix c (Some w) = is_written c.destination

-- an emulated operation: with its one operand, or without, and then with no suffix; a suffix needs a destination that is written
abbrev pub emulated_of : CoreText → Option Width → Located → Option StatementMeaning
emulated_of c w p = if takes_suffix c w then two_of c.op w (place c.source p) (place c.destination p) else None

-- an emulated operation and what stands behind its name: one operand, if its core text has one that is written, and else nothing
unfoldable pub emulated : CoreText → Option Width → Located → Option StatementMeaning
emulated c w rest = if is_written c.source || is_written c.destination then (only_word rest >>? emulated_of c w)
    else (if no_fields (fields rest.text) then emulated_of c w rest else None)

-- a word that is a value
abbrev pub word_value : Located → Option ValueMeaning
word_value p = only_word p >>? value_of

-- the values among pieces
abbrev pub with_value : Option ValueMeaning → List ValueMeaning → List ValueMeaning
with_value None vs = vs
with_value (Some v) vs = v ∷ vs

-- the values of the pieces that are one
abbrev pub values_of : List Located → List ValueMeaning
values_of [] = []
values_of (p ∷ ps) = with_value (word_value p) (values_of ps)

-- whether each piece is a value
abbrev pub are_values : List Located → Bool
are_values [] = true
are_values (p ∷ ps) = is_some (word_value p) && are_values ps

-- an `.org` takes a number
abbrev pub org_of : ValueMeaning → Option StatementMeaning
org_of (number n) = Some (org (number n))
org_of (out_of_range n) = Some (org (out_of_range n))
org_of (label name) = None
org_of here = None

-- RETI and the directives
unfoldable pub plain_of : List ℕ → Located → Option StatementMeaning
plain_of name rest = if str_eq_ignore_ascii_case name (codes "reti")
    then (if no_fields (fields rest.text) then Some (instruction (record { instr = instr.Reti; source = None; destination = None })) else None)
    else (if str_eq_ignore_ascii_case name (codes ".org") then (word_value rest >>? org_of)
    else (if str_eq_ignore_ascii_case name (codes ".word")
    then (if are_values (parts 44 rest) then Some (words (values_of (parts 44 rest))) else None)
    else None))

-- a jump, or else RETI or a directive
abbrev pub without_suffix : Option Condition → List ℕ → Located → Option StatementMeaning
without_suffix (Some c) name rest = word_value rest >>? λ v. Some (jump c v)
without_suffix None name rest = plain_of name rest

-- these take no suffix
abbrev pub if_no_suffix : List ℕ → Option Width → Located → Option StatementMeaning
if_no_suffix name None rest = without_suffix (condition_named name) name rest
if_no_suffix name (Some w) rest = None

-- an emulated operation, or else one of these
abbrev pub or_emulated : Option CoreText → List ℕ → Option Width → Located → Option StatementMeaning
or_emulated (Some c) name w rest = emulated c w rest
or_emulated None name w rest = if_no_suffix name w rest

-- an operation of one operand, or else one of these
abbrev pub or_one : Option OneName → List ℕ → Option Width → Located → Option StatementMeaning
or_one (Some one) name w rest = only_word rest >>? one_of one w
or_one None name w rest = or_emulated (emulated_named name) name w rest

-- an operation of two operands, or else one of these
abbrev pub or_two : Option TwoOp → List ℕ → Option Width → Located → Option StatementMeaning
or_two (Some op) name w rest = two_words op w (before_mark 44 rest) (behind_mark 44 rest)
or_two None name w rest = or_one (one_named name) name w rest

-- what an operation and the operands behind it say
unfoldable pub operation_of : List ℕ → Option Width → Located → Option StatementMeaning
operation_of name w rest = or_two (two_named name) name w rest

-- a piece with no byte says nothing; another begins with the name of an operation
abbrev pub statement_from : Located → List ℕ → Option StatementMeaning
statement_from p [] = Some nothing
statement_from p (b ∷ bs) = operation_of (base_name (word p).text) (suffix_of (word p).text) (behind_word p)

-- what a piece says that begins with no blank
unfoldable pub statement_of : Located → Option StatementMeaning
statement_of p = statement_from p p.text

-- a statement behind a label or without one
abbrev pub with_label : Option Located → Option StatementMeaning → Option LineMeaning
with_label name None = None
with_label name (Some s) = Some (record { label = name; statement = s })

-- a label stands before a colon
abbrev pub labelled : Located → Option Located → Option LineMeaning
labelled p None = with_label None (statement_of p)
labelled p (Some rest) = if is_label (before_mark 58 p).text then with_label (Some (before_mark 58 p)) (statement_of (without_blanks rest)) else None

-- a line without its comment, from its first byte that is no blank on
abbrev pub uncommented : Located → Located
uncommented line = without_blanks (before_mark 59 line)

-- what a line says; `None` where it is no line of an assembler text
unfoldable pub line_of : Located → Option LineMeaning
line_of line = labelled (uncommented line) (behind_mark 58 (uncommented line))
