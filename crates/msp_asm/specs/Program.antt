-- The lines of a text with their addresses, and what they mean under the labels.
use Rattle.std.specs.Prelude.{ℕ, ◌+◌, ◌*◌, ◌%◌, ◌==◌, ◌||◌, Bool, true, false, not, if◌then◌else◌, List, [], ◌∷◌, ◌++◌, length, Option, Some, None, Result, Ok}
use Rattle.std.specs.Prelude.{Err, is_none, option_map}
use Rattle.std.specs.Option.{option_to_list, option_or}
use Rattle.alp_text.specs.declared.lines.Span.{Span}
use Rattle.msp_isa.specs.Encoding.{encoding}
use Rattle.msp_isa.specs.declared.instructions.Instr.TheVariants as instr
use Rattle.msp_isa.specs.declared.instructions.Condition.{Condition}
use Rattle.asm_line.specs.Pieces.{Located}
use Rattle.asm_line.specs.Values.{ValueMeaning, number, out_of_range, label, here}
use Rattle.asm_line.specs.Lines.{StatementMeaning, nothing, org, words, jump, instruction, LineMeaning}
use Rattle.asm_line.specs.Filling.{fill, offset_to}
use Rattle.msp_asm.specs.declared.labels.Place.{Place}
use Rattle.msp_asm.specs.declared.fault.AsmFault.{AsmFault}
use Rattle.msp_asm.specs.declared.fault.AsmFault.TheVariants as fault
use Rattle.msp_asm.specs.Labels.{Table}

-- the number that an `.org` says, modulo 65536, refused or not
abbrev pub org_address : ValueMeaning → ℕ → ℕ
org_address (number n) a = n
org_address (out_of_range n) a = n
org_address (label p) a = a
org_address here a = a

-- the address behind a statement
abbrev pub after : ℕ → StatementMeaning → ℕ
after a nothing = a
after a (org v) = org_address v a
after a (words vs) = (a + 2 * length vs) % 65536
after a (jump c v) = (a + 2) % 65536
after a (instruction t) = (a + 2 * length (encoding t.instr)) % 65536

-- the address of a label, of which there is one where no fault is found
abbrev pub place_address : Option Place → ℕ
place_address None = 0
place_address (Some p) = p.address

-- what a value is worth in the item at an address
abbrev pub value_in : Table → ℕ → ValueMeaning → ℕ
value_in f a (number n) = n
value_in f a (out_of_range n) = n
value_in f a (label p) = place_address (f p.text)
value_in f a here = a

-- what the value of an operand is worth, if it has one
abbrev pub operand_in : Table → ℕ → Option ValueMeaning → ℕ
operand_in f a None = 0
operand_in f a (Some v) = value_in f a v

-- the values of a statement, in the order of the text
abbrev pub values_in : StatementMeaning → List ValueMeaning
values_in nothing = []
values_in (org v) = v ∷ []
values_in (words vs) = vs
values_in (jump c v) = v ∷ []
values_in (instruction t) = option_to_list t.source ++ option_to_list t.destination

-- the label of a value, if it stands nowhere
abbrev pub unknown_in : Table → ValueMeaning → Option Located
unknown_in f (number n) = None
unknown_in f (out_of_range n) = None
unknown_in f (label p) = if is_none (f p.text) then Some p else None
unknown_in f here = None

-- the first label of values that stands nowhere
abbrev pub first_unknown : Table → List ValueMeaning → Option Located
first_unknown f [] = None
first_unknown f (v ∷ vs) = option_or (unknown_in f v) (first_unknown f vs)

-- a number below -32768 or above 65535
abbrev pub is_out_of_range : ValueMeaning → Bool
is_out_of_range (number n) = false
is_out_of_range (out_of_range n) = true
is_out_of_range (label p) = false
is_out_of_range here = false

-- whether one of the values is such a number
abbrev pub any_out_of_range : List ValueMeaning → Bool
any_out_of_range [] = false
any_out_of_range (v ∷ vs) = is_out_of_range v || any_out_of_range vs

-- a jump to a target that no offset reaches
abbrev pub is_far : Table → ℕ → StatementMeaning → Bool
is_far f a nothing = false
is_far f a (org v) = false
is_far f a (words vs) = false
is_far f a (jump c v) = is_none (offset_to a (value_in f a v))
is_far f a (instruction t) = false

-- a label that stands first in another line
abbrev pub is_elsewhere : ℕ → Option Place → Bool
is_elsewhere n None = false
is_elsewhere n (Some p) = not (p.line == n)

-- the places of a name in the text
abbrev pub span_of : Located → Span
span_of p = record { from = p.at; to = p.at + length p.text }

-- each fault of the n-th line, if it has it
abbrev pub repeated_fault : Table → ℕ → Option Located → Option AsmFault
repeated_fault f n None = None
repeated_fault f n (Some name) = if is_elsewhere n (f name.text) then Some (fault.RepeatedName n (span_of name)) else None

-- a label of the n-th line that stands nowhere
abbrev pub unknown_fault : ℕ → Option Span → Option AsmFault
unknown_fault n None = None
unknown_fault n (Some name) = Some (fault.UnknownName n name)

-- a fault where a test holds
abbrev pub fault_if : Bool → AsmFault → Option AsmFault
fault_if true e = Some e
fault_if false e = None

-- the first fault of the n-th line at an address, but for the places of its words
unfoldable pub line_fault : Table → ℕ → ℕ → LineMeaning → Option AsmFault
line_fault f n a l = option_or (repeated_fault f n l.label)
    (option_or (unknown_fault n (option_map span_of (first_unknown f (values_in l.statement))))
    (option_or (fault_if (any_out_of_range (values_in l.statement)) (fault.OutOfRange n))
    (fault_if (is_far f a l.statement) (fault.JumpTooFar n))))

-- the words of values, each an item at its own address
unfoldable pub items : Table → ℕ → List ValueMeaning → List ℕ
items f a [] = []
items f a (v ∷ vs) = value_in f a v ∷ items f ((a + 2) % 65536) vs

-- the words of a jump with these ten bits
abbrev pub jump_words : Condition → Option ℕ → List ℕ
jump_words c None = []
jump_words c (Some bits) = encoding (instr.Jump c bits)

-- the words of a statement at an address
unfoldable pub line_words : Table → ℕ → StatementMeaning → List ℕ
line_words f a nothing = []
line_words f a (org v) = []
line_words f a (words vs) = items f a vs
line_words f a (jump c v) = jump_words c (offset_to a (value_in f a v))
line_words f a (instruction t) = encoding (fill a (operand_in f a t.source) (operand_in f a t.destination) t.instr)

-- what the n-th line says
abbrev pub said : ℕ → Option LineMeaning → Result LineMeaning AsmFault
said n None = Err (fault.BadLine n)
said n (Some l) = Ok l
