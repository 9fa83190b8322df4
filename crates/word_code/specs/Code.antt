-- The code of a word program, which does the same wherever it stands: the stack is at SP, its top first, below the words that wait to be pushed; the
-- locals stand in R8 to R15 and, from the ninth on, in RAM above the stack; R4 to R7 are for work. What a call calls has code of its own elsewhere.
use Rattle.std.specs.Prelude.{ℕ, zero, suc, ◌+◌, ◌-◌, ◌*◌, Bool, true, false, not, List, [], ◌∷◌, ◌++◌, get_or, ◌==◌, if◌then◌else◌, nat_le, nat_lt, ◌&&◌}
use Rattle.std.specs.Prelude.{◌^◌, Option, Some, None}
use Rattle.std.specs.Int.{w16, trailing_zeros}
use Rattle.array_versions.specs.machine_effects.address_space.Limits.{stack_top}
use Rattle.std.specs.List.{list_any}
use Rattle.array_versions.specs.msp_step.msp_isa.declared.instructions.TwoOp.{TwoOp}
use Rattle.array_versions.specs.msp_step.msp_isa.declared.instructions.TwoOp.TheVariants as op
use Rattle.array_versions.specs.msp_step.msp_isa.declared.registers.SourceRegister.TheVariants as source_register
use Rattle.array_versions.specs.msp_step.msp_isa.declared.operands.Operand.{Operand}
use Rattle.array_versions.specs.msp_step.msp_isa.declared.operands.Operand.TheVariants as operand
use Rattle.array_versions.specs.msp_step.msp_isa.declared.operands.Konst.TheVariants as konst
use Rattle.array_versions.specs.msp_step.msp_isa.declared.instructions.Condition.{Condition}
use Rattle.array_versions.specs.msp_step.msp_isa.declared.instructions.Condition.TheVariants as condition
use Rattle.code_forms.specs.instruction_forms.declared.kinds.Modification.TheVariants as change
use Rattle.array_versions.specs.msp_step.msp_isa.alp_words.Words.{word_sum}
use Rattle.array_versions.specs.machine_effects.event_places.Places.{tail_place, count_place, sent_place, answer_place, ring_slots}
use Rattle.code_forms.specs.Forms as forms
use Rattle.code_forms.specs.Forms.{WorkRegister, R4, R5, R6, R7, R8, R9, R10, R11, R12, R13, R14, R15, Register, Number, Constant, Fram, Ram, Indexed, Popped}
use Rattle.code_forms.specs.Forms.{Head, Slot, Source, ToRegister, ToFram, ToRam, ToIndexed, Target, Form, Move, Calculate, Update, Push, Modify, SetStack}
use Rattle.code_forms.specs.Forms.{Jump, Skip, Branch, Call, Return, KeepStack, RestoreStack, StackNext}
use Rattle.code_forms.specs.Code.{over, back_by, back_over}
pub use Rattle.code_forms.specs.Code.{size}
use Rattle.word_code.specs.declared.bounds.Bound.{Bound}
use Rattle.word_code.specs.declared.waiting.Waiting.{Waiting}
use Rattle.word_code.specs.declared.waiting.Waiting.TheVariants as waiting
use Rattle.array_versions.specs.declared.operations.UnaryOperation.{UnaryOperation}
use Rattle.array_versions.specs.declared.operations.UnaryOperation.TheVariants.{Negate, Complement}
use Rattle.array_versions.specs.declared.operations.BinaryOperation.{BinaryOperation}
use Rattle.array_versions.specs.declared.operations.BinaryOperation.TheVariants.{Multiply, Divide, Remainder, Plain}
use Rattle.array_versions.specs.declared.operations.PlainOperation.{PlainOperation}
use Rattle.array_versions.specs.declared.operations.PlainOperation.TheVariants.{Add, Subtract, And, Xor, Or}
use Rattle.array_versions.specs.declared.operations.Comparison.{Comparison}
use Rattle.array_versions.specs.declared.operations.Comparison.TheVariants.{Equal, Below, Above, SignedBelow, SignedAbove, CommonBit}
use Rattle.array_versions.specs.declared.operations.ShiftOperation.{ShiftOperation}
use Rattle.array_versions.specs.declared.operations.ShiftOperation.TheVariants.{Left, Right, SignedRight}
use Rattle.array_versions.specs.declared.program.ArrayPlace.{ArrayPlace}
use Rattle.array_versions.specs.declared.program.ListPlace.{ListPlace}
use Rattle.array_versions.specs.declared.program.LoggedPlace.{LoggedPlace}
use Rattle.array_versions.specs.declared.operations.LongOperation.{LongOperation}
use Rattle.array_versions.specs.declared.operations.LongOperation.TheVariants as with_longs
use Rattle.array_versions.specs.Program.{Step, Test, Program, number, load, keep, update, local, set_local, update_local, unary, binary, shift, long, element}
use Rattle.array_versions.specs.Program.{emit_word, list_entry, versioned_read, versioned_write, versioned_update, logged_write, logged_update, sense}
use Rattle.array_versions.specs.Program.{next_event, freeze_events, truth, choose, repeat, store_number, move_word, jump, holds, compares, both, either, fails}
use Rattle.array_versions.specs.Program.{call, give, nothing, step}
use Rattle.array_versions.specs.Form.{locals_of}
pub use Rattle.array_versions.specs.Form.{stack_base, local_address}
use Rattle.array_versions.specs.Behaviour.{WordState}
use Rattle.array_versions.specs.Cost.{spent}

-- the registers of the first eight locals
abbrev pub local_registers : List WorkRegister
local_registers = R8 ∷ R9 ∷ R10 ∷ R11 ∷ R12 ∷ R13 ∷ R14 ∷ R15 ∷ []

-- the register of a local below 8
abbrev pub local_register : ℕ → WorkRegister
local_register n = get_or local_registers n R15

-- SP is set where the stack begins below the locals, where some stand in RAM. From an attempt's start on it is at the end of RAM
abbrev pub stack_set : ℕ → List Form
stack_set locals = if nat_lt 8 locals then SetStack (stack_base locals) ∷ [] else []

-- the cycles for that, at most
abbrev pub stack_cycles : ℕ
stack_cycles = 2

-- a local as what MOV writes
abbrev pub local_target : ℕ → Target
local_target n = if nat_lt n 8 then ToRegister (local_register n) else ToRam (local_address n)

-- the top of the stack to a register
abbrev pub pop_to : WorkRegister → Form
pop_to b = Move Popped (ToRegister b)

-- a number as a source: some take no word of their own
abbrev pub number_source : ℕ → Source
number_source n =
    if n == 0 then Constant konst.Zero else if n == 1 then Constant konst.One else if n == 2 then Constant konst.Two else if n == 4 then Constant konst.Four
    else if n == 8 then Constant konst.Eight else if n == 0xFFFF then Constant konst.MinusOne else (Number n)

-- a word that waits to be pushed, as a source: what an instruction names in its place
abbrev pub waiting_source : Waiting → Source
waiting_source (waiting.Number n) = number_source n
waiting_source (waiting.Fram a) = Fram a
waiting_source (waiting.Local n) = Register (local_register n)
waiting_source waiting.R4 = Register R4
waiting_source waiting.R6 = Register R6

-- all words that wait are pushed, the lowest first; lists of them have the top first
abbrev pub flushed : List Waiting → List Form
flushed [] = []
flushed (o ∷ os) = flushed os ++ Push (waiting_source o) ∷ []

-- the cycles of the push of a word that waits, at most: what its step left unspent
abbrev pub owed_by : Waiting → ℕ
owed_by (waiting.Number n) = 4
owed_by (waiting.Fram a) = 5
owed_by (waiting.Local n) = 5
owed_by waiting.R4 = 3
owed_by waiting.R6 = 3

-- and of the pushes of all of them
abbrev pub owed : List Waiting → ℕ
owed [] = 0
owed (o ∷ os) = owed os + owed_by o

-- the top, where it waits
abbrev pub top_of : List Waiting → Option Waiting
top_of [] = None
top_of (o ∷ os) = Some o

-- as a source: where it doesn't wait it is popped
abbrev pub source_from : Option Waiting → Source
source_from None = Popped
source_from (Some o) = waiting_source o

-- the words that wait below the top
abbrev pub below_top : List Waiting → List Waiting
below_top [] = []
below_top (o ∷ os) = os

-- a word waits in a register for work
abbrev pub is_held : Waiting → Bool
is_held waiting.R4 = true
is_held waiting.R6 = true
is_held _ = false

-- so does one of them
abbrev pub any_held : List Waiting → Bool
any_held os = list_any is_held os

-- in front of code that writes registers for work, the words below what it takes: where one of them waits in such a register all are pushed
abbrev pub cleared : List Waiting → List Form
cleared os = if any_held os then flushed os else []

-- and those that go on waiting
abbrev pub kept : List Waiting → List Waiting
kept os = if any_held os then [] else os

-- a word that waits is the one of FRAM at this address
abbrev pub is_at : ℕ → Waiting → Bool
is_at a (waiting.Fram b) = a == b
is_at a _ = false

-- so is one of them
abbrev pub any_at : ℕ → List Waiting → Bool
any_at a os = list_any (is_at a) os

-- in front of a store to that word, the words below what it takes: where one of them is that word all are pushed
abbrev pub spared : ℕ → List Waiting → List Form
spared a os = if any_at a os then flushed os else []

-- and those that go on waiting
abbrev pub sparing : ℕ → List Waiting → List Waiting
sparing a os = if any_at a os then [] else os

-- to R4
abbrev pub four_from : Option Waiting → List Form
four_from None = pop_to R4 ∷ []
four_from (Some waiting.R4) = []
four_from (Some o) = Move (waiting_source o) (ToRegister R4) ∷ []

-- to R5
abbrev pub five_from : Option Waiting → List Form
five_from o = Move (source_from o) (ToRegister R5) ∷ []

-- the top to R4
abbrev pub top_to_four : List Waiting → List Form
top_to_four os = cleared (below_top os) ++ four_from (top_of os)

-- the top to R5
abbrev pub top_to_five : List Waiting → List Form
top_to_five os = cleared (below_top os) ++ five_from (top_of os)

-- the right side, which is the top, to R5 and the left one to R4
abbrev pub two_to_registers : List Waiting → List Form
two_to_registers os =
    let under = below_top os in
    cleared (below_top under) ++ (five_from (top_of os) ++ four_from (top_of under))

-- an operation on R5, its result in R4
abbrev pub unary_middle : UnaryOperation → List Form
unary_middle Negate = Move (Constant konst.Zero) (ToRegister R4) ∷ Calculate op.Sub (Register R5) R4 ∷ []
unary_middle Complement = Move (Constant konst.MinusOne) (ToRegister R4) ∷ Calculate op.Sub (Register R5) R4 ∷ []

-- a bit of the multiplier: where it is 1, what is in R4 is added to R6; then R4 is doubled and R5 halved
abbrev pub multiply_bit : List Form
multiply_bit =
    let added = Calculate op.Add (Register R4) R6 ∷ [] in
    let shifted = Calculate op.Add (Register R4) R4 ∷ Calculate op.Bit (Constant konst.Zero) R5 ∷ Modify change.Rrc R5 ∷ [] in
    Calculate op.Bit (Constant konst.One) R5 ∷ over condition.Equal added ∷ (added ++ shifted)

-- until R5 is 0
abbrev pub multiply_turn : List Form
multiply_turn = multiply_bit ++ Jump condition.NotEqual (back_over multiply_bit) ∷ []

-- a bit of the dividend: it goes from R4 into the rest in R6, which is less the divisor where that goes, as it does without a look where the rest has
-- a bit too many; the quotient's bit goes into R4
abbrev pub divide_bit : List Form
divide_bit =
    let taken = Calculate op.Sub (Register R5) R6 ∷ Calculate op.Add (Constant konst.One) R4 ∷ [] in
    let tested = Calculate op.Cmp (Register R5) R6 ∷ over condition.NoCarry taken ∷ [] in
    Calculate op.Add (Register R4) R4 ∷ Calculate op.Addc (Register R6) R6 ∷ over condition.Carry tested
    ∷ (tested ++ (taken ++ Calculate op.Sub (Constant konst.One) R7 ∷ []))

-- sixteen times, by R7
abbrev pub divide_turn : List Form
divide_turn = divide_bit ++ Jump condition.NotEqual (back_over divide_bit) ∷ []

-- sixteen bits, from a rest of 0 on
abbrev pub divide_middle : List Form
divide_middle = Move (Constant konst.Zero) (ToRegister R6) ∷ Move (Number 16) (ToRegister R7) ∷ divide_turn

-- the instruction of an operation
abbrev pub plain_instruction : PlainOperation → TwoOp
plain_instruction Add = op.Add
plain_instruction Subtract = op.Sub
plain_instruction And = op.And
plain_instruction Xor = op.Xor
plain_instruction Or = op.Bis

-- an operation on the left side in R4 and the right one in R5
abbrev pub binary_middle : BinaryOperation → List Form
binary_middle Multiply = Move (Constant konst.Zero) (ToRegister R6) ∷ multiply_turn
binary_middle Divide = divide_middle
binary_middle Remainder = divide_middle
binary_middle (Plain o) = Calculate (plain_instruction o) (Register R5) R4 ∷ []

-- where its result waits
abbrev pub binary_result : BinaryOperation → Waiting
binary_result Multiply = waiting.R6
binary_result Remainder = waiting.R6
binary_result _ = waiting.R4

-- a local in RAM becomes what an operation gives of it and of a word
abbrev pub ram_update : PlainOperation → ℕ → Source → List Form
ram_update o n x =
    Move x (ToRegister R5) ∷ Move (Ram (local_address n)) (ToRegister R4) ∷ Calculate (plain_instruction o) (Register R5) R4
    ∷ Move (Register R4) (ToRam (local_address n)) ∷ []

-- the same of any local
abbrev pub update_code : PlainOperation → ℕ → Source → List Form
update_code o n x = if nat_lt n 8 then Calculate (plain_instruction o) x (local_register n) ∷ [] else (ram_update o n x)

-- R4 as an operand
abbrev pub in_r4 : Operand
in_r4 = operand.Reg (source_register.Index (forms.index_of R4))

-- a form so many times
abbrev pub repeated : ℕ → Form → List Form
repeated zero m = []
repeated (suc k) m = m ∷ repeated k m

-- R4 doubled
abbrev pub double : Form
double = Calculate op.Add (Register R4) R4

-- R4 halved, its sign kept
abbrev pub halve : Form
halve = Modify change.Rra R4

-- to the right by fewer than 8 bits: first a 0 comes in, and then RRA brings in 0
abbrev pub right_code : ℕ → List Form
right_code zero = []
right_code (suc k) = Calculate op.Bit (Constant konst.Zero) R4 ∷ Modify change.Rrc R4 ∷ repeated k halve

-- a shift of R4 by fewer than 15 bits: by 8 and more the bytes are exchanged first
abbrev pub shift_by : ShiftOperation → ℕ → List Form
shift_by Left k = if nat_lt k 8 then repeated k double else (Modify change.Swpb R4 ∷ Calculate op.And (Number 0xFF00) R4 ∷ repeated (k - 8) double)
shift_by Right k = if nat_lt k 8 then right_code k else (Modify change.Swpb R4 ∷ Calculate op.And (Number 0xFF) R4 ∷ repeated (k - 8) halve)
shift_by SignedRight k = if nat_lt k 8 then repeated k halve else (Modify change.Swpb R4 ∷ Modify change.Sxt R4 ∷ repeated (k - 8) halve)

-- by 15 bits one is left, which goes through the carry; of a sign there come as many as a word has
abbrev pub last_bit : ShiftOperation → List Form
last_bit Left = Modify change.Rra R4 ∷ Move (Constant konst.Zero) (ToRegister R4) ∷ Modify change.Rrc R4 ∷ []
last_bit Right = double ∷ Move (Constant konst.Zero) (ToRegister R4) ∷ Calculate op.Addc (Register R4) R4 ∷ []
last_bit SignedRight = double ∷ Calculate op.Subc (Register R4) R4 ∷ Calculate op.Xor (Constant konst.MinusOne) R4 ∷ []

-- by at most 15 bits
abbrev pub shift_code : ShiftOperation → ℕ → List Form
shift_code operation k = if k == 15 then last_bit operation else shift_by operation k

-- by more it gives 0
abbrev pub shift_middle : ShiftOperation → ℕ → List Form
shift_middle operation k = if nat_le k 15 then shift_code operation k else (Move (Constant konst.Zero) (ToRegister R4) ∷ [])

-- the index in R4 is compared with a length: where it isn't below it, over so many words
abbrev pub check_code : ℕ → ℕ → List Form
check_code length offset = Calculate op.Cmp (number_source length) R4 ∷ Jump condition.Carry offset ∷ []

-- what the check of an index goes to: R4 becomes 0
abbrev pub zeroed : List Form
zeroed = Move (Constant konst.Zero) (ToRegister R4) ∷ []

-- the code in front of it goes over that
abbrev pub past_zero : List Form
past_zero = over condition.Always zeroed ∷ []

abbrev pub zero_code : List Form
zero_code = past_zero ++ zeroed

-- code for an index in R4 that is below a length; where it isn't, R4 becomes 0
abbrev pub or_zero : ℕ → List Form → List Form
or_zero length ms = check_code length (size (ms ++ past_zero)) ++ (ms ++ zero_code)

-- R4 is an offset in an array, and becomes the element there
abbrev pub taken_from : ℕ → List Form
taken_from base = Move (Indexed R4 base) (ToRegister R4) ∷ []

-- so is twice the index in R4
abbrev pub fetch_code : ℕ → List Form
fetch_code base = double ∷ taken_from base

-- an element, by whether the index is surely below the length; else it is 0 where the index isn't
abbrev pub element_code : Bool → ℕ → ℕ → List Form
element_code true base length = fetch_code base
element_code false base length = or_zero length (fetch_code base)

-- the word in R5, then the count
abbrev pub emit_code : ℕ → ℕ → List Form
emit_code count buffer =
    Move (Fram count) (ToRegister R6) ∷ Move (Register R6) (ToRegister R4) ∷ Calculate op.Add (Register R6) R4
    ∷ Move (Register R5) (ToIndexed R4 buffer) ∷ Calculate op.Add (Constant konst.One) R6 ∷ Move (Register R6) (ToFram count) ∷ []

-- how many words a run has, as a source: 1 takes no word of its own
abbrev pub words_source : ℕ → Source
words_source words = if words == 1 then Constant konst.One else Number words

-- the first home and the first copy of a run, R4 being six times the count
abbrev pub pair_code : ℕ → ℕ → ℕ → ℕ → List Form
pair_code count list home copy =
    Move (Fram count) (ToRegister R6) ∷ Move (Register R6) (ToRegister R4) ∷ Calculate op.Add (Register R4) R4 ∷ Calculate op.Add (Register R6) R4
    ∷ Calculate op.Add (Register R4) R4 ∷ Move (Number home) (ToIndexed R4 list) ∷ Move (Number copy) (ToIndexed R4 (word_sum list 2)) ∷ []

-- an entry: both of them, its words, then the count
abbrev pub entry_code : ℕ → ℕ → ℕ → ℕ → ℕ → List Form
entry_code count list home copy words =
    pair_code count list home copy
    ++ (Move (words_source words) (ToIndexed R4 (word_sum list 4)) ∷ Update op.Add (Constant konst.One) count ∷ [])

-- a versioned read at an index in R4 that is below the length: the version word is compared with the attempt's number; then R4 becomes the copy, and
-- the code goes over so many words, or the element
abbrev pub own_code : ℕ → ArrayPlace → ListPlace → List Form
own_code offset place list =
    let own = taken_from place.copies ++ Jump condition.Always offset ∷ [] in
    double ∷ Move (Fram list.ver) (ToRegister R5) ∷ Calculate op.Cmp (Indexed R4 place.versions) R5 ∷ over condition.NotEqual own
    ∷ (own ++ taken_from place.elements)

-- a versioned read, by whether the index is surely below the length; else it gives 0 where the index isn't
abbrev pub read_code : Bool → ArrayPlace → ListPlace → List Form
read_code true place list = own_code (size (taken_from place.elements)) place list
read_code false place list = or_zero place.length (own_code (size (taken_from place.elements ++ zero_code)) place list)

-- R6 is where the run of the last entry ends, the words of its entry being at one address from R5 on and where it begins at another;
-- where that isn't what this register holds, a jump
abbrev pub end_test : ℕ → ℕ → WorkRegister → ℕ → List Form
end_test words begin b offset =
    Move (Indexed R5 words) (ToRegister R6) ∷ Calculate op.Add (Register R6) R6 ∷ Calculate op.Add (Indexed R5 begin) R6
    ∷ Calculate op.Cmp (Register b) R6 ∷ Jump condition.NotEqual offset ∷ []

-- the version word; then R7 is the home, R4 the copy, and R5 the count of entries, which is compared with 0
abbrev pub mark_code : ArrayPlace → ListPlace → List Form
mark_code place list =
    Move (Register R6) (ToIndexed R4 place.versions) ∷ Move (Register R4) (ToRegister R7) ∷ Calculate op.Add (Number place.elements) R7
    ∷ Calculate op.Add (Number place.copies) R4 ∷ Move (Fram list.cln) (ToRegister R5) ∷ Calculate op.Cmp (Constant konst.Zero) R5 ∷ []

-- R5 becomes where the last entry stands from the list on
abbrev pub last_place : List Form
last_place =
    Calculate op.Sub (Constant konst.One) R5 ∷ Move (Register R5) (ToRegister R6) ∷ Calculate op.Add (Register R5) R5
    ∷ Calculate op.Add (Register R6) R5 ∷ Calculate op.Add (Register R5) R5 ∷ []

-- that, or a jump without entries
abbrev pub last_code : ℕ → List Form
last_code offset = Jump condition.Equal offset ∷ last_place

-- the last entry has a word more, and all is done: a jump
abbrev pub longer_code : ℕ → ℕ → List Form
longer_code words offset =
    Move (Indexed R5 words) (ToRegister R6) ∷ Calculate op.Add (Constant konst.One) R6 ∷ Move (Register R6) (ToIndexed R5 words)
    ∷ Jump condition.Always offset ∷ []

-- the entry behind it
abbrev pub next_code : List Form
next_code = Calculate op.Add (Number 6) R5 ∷ []

-- an entry of one word where R5 says, then the count
abbrev pub word_code : ListPlace → List Form
word_code list =
    Move (Register R7) (ToIndexed R5 list.list) ∷ Move (Register R4) (ToIndexed R5 (word_sum list.list 2))
    ∷ Move (Constant konst.One) (ToIndexed R5 (word_sum list.list 4)) ∷ Update op.Add (Constant konst.One) list.cln ∷ []

-- behind the first store to a copy: the version word; then the last entry gets longer where both of its runs end right before the
-- home and the copy, else there is an entry more
abbrev pub first_code : ArrayPlace → ListPlace → List Form
first_code place list =
    let words = word_sum list.list 4 in
    let longer = longer_code words (size (next_code ++ word_code list)) in
    let copies_end = end_test words (word_sum list.list 2) R4 (size longer) in
    let homes_end = end_test words list.list R7 (size (copies_end ++ longer)) in
    let last = last_code (size (last_place ++ (homes_end ++ (copies_end ++ (longer ++ next_code))))) in
    mark_code place list ++ (last ++ (homes_end ++ (copies_end ++ (longer ++ (next_code ++ word_code list)))))

-- the store to the copy, of the word in R5 at the index in R4; where the version word is the attempt's number, all that follows it is passed over
abbrev pub copy_code : ArrayPlace → ListPlace → List Form
copy_code place list =
    double ∷ Move (Register R5) (ToIndexed R4 place.copies) ∷ Move (Fram list.ver) (ToRegister R6) ∷ Calculate op.Cmp (Indexed R4 place.versions) R6
    ∷ over condition.Equal (first_code place list) ∷ []

-- a versioned write at an index that is below the length
abbrev pub stored_code : ArrayPlace → ListPlace → List Form
stored_code place list = copy_code place list ++ first_code place list

-- a versioned write, by whether the index is surely below the length; else nothing is stored where the index isn't
abbrev pub write_code : Bool → ArrayPlace → ListPlace → List Form
write_code true place list = stored_code place list
write_code false place list = let stored = stored_code place list in check_code place.length (size stored) ++ stored

-- the flags of a comparison: of R4, the left side, with the right one, or of R5, the right side, with the left one
abbrev pub compare_form : Comparison → Source → Form
compare_form Equal x = Calculate op.Cmp x R4
compare_form Below x = Calculate op.Cmp x R4
compare_form Above x = Calculate op.Cmp (Register R4) R5
compare_form SignedBelow x = Calculate op.Cmp x R4
compare_form SignedAbove x = Calculate op.Cmp (Register R4) R5
compare_form CommonBit x = Calculate op.Bit x R4

-- whether it is of R5
abbrev pub is_turned : Comparison → Bool
is_turned Above = true
is_turned SignedAbove = true
is_turned _ = false

-- the condition that they meet where it holds
abbrev pub holding : Comparison → Condition
holding Equal = condition.Equal
holding Below = condition.NoCarry
holding Above = condition.NoCarry
holding SignedBelow = condition.Less
holding SignedAbove = condition.Less
holding CommonBit = condition.NotEqual

-- and where it fails
abbrev pub failing : Comparison → Condition
failing Equal = condition.NotEqual
failing Below = condition.Carry
failing Above = condition.Carry
failing SignedBelow = condition.GreaterOrEqual
failing SignedAbove = condition.GreaterOrEqual
failing CommonBit = condition.Equal

-- over so many words behind it where a condition is met, else on; the opposite one is met where it isn't. A jump of one word reaches 511 words; any
-- further PC is added to, and the opposite condition jumps over that
abbrev pub jump_over : Condition → Condition → ℕ → List Form
jump_over met opposite d = let far = Skip (2 * d) ∷ [] in if nat_le d 511 then Jump met d ∷ [] else (over opposite far ∷ far)

-- over so many words behind it in any case
abbrev pub pass_over : ℕ → List Form
pass_over d = if d == 0 then [] else if nat_le d 511 then Jump condition.Always d ∷ [] else (Skip (2 * d) ∷ [])

-- back over so many words in front of it where a condition is met, else on; the opposite one is met where it isn't. What PC is added to goes over its own
-- three words too, the jump's among them
abbrev pub jump_back : Condition → Condition → ℕ → List Form
jump_back met opposite d = let far = Skip (0xFFFA - 2 * d) ∷ [] in if nat_le d 511 then Jump met (back_by d) ∷ [] else (over opposite far ∷ far)

-- over so many words where what the flags tell is as the flag says, else on: where it holds the one condition is met, and where it fails the other
abbrev pub decision : Bool → ℕ → Condition → Condition → List Form
decision true d met opposite = jump_over met opposite d
decision false d met opposite = jump_over opposite met d

-- by whether the top isn't 0, where these words wait
abbrev pub holds_code : List Waiting → Bool → ℕ → List Form
holds_code os when d =
    (top_to_four os ++ flushed (kept (below_top os))) ++ (Calculate op.Cmp (Constant konst.Zero) R4 ∷ decision when d condition.NotEqual condition.Equal)

-- 0 is pushed
abbrev pub zero_pushed : List Form
zero_pushed = Push (Constant konst.Zero) ∷ []

-- or 1 in its place
abbrev pub one_pushed : List Form
one_pushed = Push (Constant konst.One) ∷ over condition.Always zero_pushed ∷ []

abbrev pub truth_code : List Form
truth_code = one_pushed ++ zero_pushed

-- a local becomes a number
abbrev pub number_code : ℕ → ℕ → List Form
number_code n k = Move (number_source k) (local_target n) ∷ []

-- the end of a turn for a local in RAM: it goes up by one, and is compared with a number
abbrev pub ram_turn_end : ℕ → ℕ → List Form
ram_turn_end n below =
    Move (Ram (local_address n)) (ToRegister R4) ∷ Calculate op.Add (Constant konst.One) R4 ∷ Move (Register R4) (ToRam (local_address n))
    ∷ Calculate op.Cmp (number_source below) R4 ∷ []

-- the same for any local
abbrev pub turn_end : ℕ → ℕ → List Form
turn_end n below =
    if nat_lt n 8 then Calculate op.Add (Constant konst.One) (local_register n) ∷ Calculate op.Cmp (number_source below) (local_register n) ∷ []
    else (ram_turn_end n below)

-- turns of a body until the local has come to a number: there is one at least, since the local is looked at behind each
abbrev pub turns_code : ℕ → ℕ → List Form → List Form
turns_code n below body = let turn = body ++ turn_end n below in turn ++ jump_back condition.NotEqual condition.Equal (size turn)

-- the right side of an operation stays where it waits, but for R4
abbrev pub stays : Option Waiting → Bool
stays None = false
stays (Some waiting.R4) = false
stays (Some _) = true

-- the right side, which is the top, to where an instruction reads it, and the left one to R4
abbrev pub sides : List Waiting → List Form
sides os =
    let under = below_top os in
    cleared (below_top under) ++ ((if stays (top_of os) then [] else five_from (top_of os)) ++ four_from (top_of under))

-- the right side then
abbrev pub right_source : Option Waiting → Source
right_source o = if stays o then source_from o else (Register R5)

-- both sides of a comparison, to where it reads them
abbrev pub compare_sides : Comparison → List Waiting → List Form
compare_sides c os = if is_turned c then two_to_registers os else sides os

-- its right side then
abbrev pub compare_source : Comparison → Option Waiting → Source
compare_source c o = if is_turned c then Register R5 else right_source o

-- by whether the two words on top compare so
abbrev pub compares_code : List Waiting → Comparison → Bool → ℕ → List Form
compares_code os c when d =
    (compare_sides c os ++ flushed (kept (below_top (below_top os))))
    ++ (compare_form c (compare_source c (top_of os)) ∷ decision when d (holding c) (failing c))

-- the exponent of a power of two
abbrev pub power : ℕ → Option ℕ
power n = let k = trailing_zeros w16 n in if nat_lt k 16 && (n == 2 ^ k) then Some k else None

-- that of the number that waits on top
abbrev pub top_power : Option Waiting → Option ℕ
top_power (Some (waiting.Number n)) = power n
top_power _ = None

-- that number less one
abbrev pub top_mask : Option Waiting → ℕ
top_mask (Some (waiting.Number n)) = n - 1
top_mask _ = 0

-- the element of an array at a number is a word of FRAM, or 0
abbrev pub known_element : ℕ → ℕ → ℕ → Waiting
known_element base length k = if nat_lt k length then waiting.Fram (word_sum base (word_sum k k)) else (waiting.Number 0)

-- the number that waits on top
abbrev pub top_number : Option Waiting → Option ℕ
top_number (Some (waiting.Number n)) = Some n
top_number _ = None

-- what waits behind an element of an array, whose index is a number that is known or not, and its code
abbrev pub element_behind : Option ℕ → List Waiting → ℕ → ℕ → List Waiting
element_behind (Some k) os base length = known_element base length k ∷ below_top os
element_behind None os base length = waiting.R4 ∷ kept (below_top os)

abbrev pub element_at : Bool → Option ℕ → List Waiting → ℕ → ℕ → List Form
element_at inside (Some k) os base length = []
element_at inside None os base length = top_to_four os ++ element_code inside base length

-- a local is below a number in the body of its loop
abbrev pub bound_of : ℕ → ℕ → Bound
bound_of n below = record { local = n; below = below }

-- a local is surely below a length: a loop around the code ends its turns there or before
abbrev pub is_bounded : List Bound → ℕ → ℕ → Bool
is_bounded bs n length = list_any (λ b. (b.local == n) && nat_le b.below length) bs

-- so is an index that waits: a number that is, or such a local
abbrev pub is_inside : List Bound → Option Waiting → ℕ → Bool
is_inside bs (Some (waiting.Number k)) length = nat_lt k length
is_inside bs (Some (waiting.Local n)) length = is_bounded bs n length
is_inside bs _ length = false

-- an operation on two words, where the right side is no power of two that is known: what brings them to R4 and R5 or elsewhere, and the operation
abbrev pub two_code : List Waiting → BinaryOperation → List Form
two_code os (Plain o) = sides os ++ Calculate (plain_instruction o) (right_source (top_of os)) R4 ∷ []
two_code os Multiply = two_to_registers os ++ binary_middle Multiply
two_code os Divide = two_to_registers os ++ binary_middle Divide
two_code os Remainder = two_to_registers os ++ binary_middle Remainder

-- a product, quotient or rest by a power of two, with the words that wait below it: a shift, or what AND leaves
abbrev pub power_code : Option ℕ → List Waiting → BinaryOperation → List Form
power_code None os operation = two_code os operation
power_code (Some k) os Multiply = top_to_four (below_top os) ++ shift_middle Left k
power_code (Some k) os Divide = top_to_four (below_top os) ++ shift_middle Right k
power_code (Some k) os Remainder = two_code (waiting.Number (top_mask (top_of os)) ∷ below_top os) (Plain And)
power_code (Some k) os (Plain o) = two_code os (Plain o)

-- where its result waits
abbrev pub power_result : Option ℕ → BinaryOperation → Waiting
power_result None operation = binary_result operation
power_result (Some k) operation = waiting.R4

-- ---- an element that is updated in place

-- the right side stays where it waits, but for registers for work
abbrev pub rests : Option Waiting → Bool
rests None = false
rests (Some o) = not (is_held o)

-- the right side then
abbrev pub rest_source : Option Waiting → Source
rest_source o = if rests o then source_from o else (Register R5)

-- what brings it there
abbrev pub to_rest : Option Waiting → List Form
to_rest o = if rests o then [] else five_from o

-- the same, all words below the two being pushed, where the index is a number that is known
abbrev pub right_to_rest : List Waiting → List Form
right_to_rest os = flushed (below_top (below_top os)) ++ to_rest (top_of os)

-- and with the index to R4
abbrev pub update_sides : List Waiting → List Form
update_sides os = flushed (below_top (below_top os)) ++ (to_rest (top_of os) ++ four_from (top_of (below_top os)))

-- a copy becomes what an operation gives of a word and of a source; R4 is the offset of both in their arrays
abbrev pub made_code : PlainOperation → Source → ℕ → ℕ → List Form
made_code o x from copies =
    Move (Indexed R4 from) (ToRegister R7) ∷ Calculate (plain_instruction o) x R7 ∷ Move (Register R7) (ToIndexed R4 copies) ∷ []

-- VER's word to R6
abbrev pub attempt_form : ListPlace → Form
attempt_form list = Move (Fram list.ver) (ToRegister R6)

-- the first update of an element in an attempt, R4 being its offset. VER's word is read anew, since it could be the copy that has been stored
abbrev pub first_update : PlainOperation → Source → ArrayPlace → ListPlace → List Form
first_update o x place list = made_code o x place.elements place.copies ++ (attempt_form list ∷ first_code place list)

-- one way or the other by the flags of the version word and VER's word: where they are equal, the one that is first here, with a jump over the other
abbrev pub by_version : List Form → List Form → List Form
by_version again first =
    let next = again ++ over condition.Always first ∷ [] in over condition.NotEqual next ∷ (next ++ first)

-- an update at the index in R4, which is below the length
abbrev pub inside_update : PlainOperation → Source → ArrayPlace → ListPlace → List Form
inside_update o x place list =
    double ∷ attempt_form list ∷ Calculate op.Cmp (Indexed R4 place.versions) R6
    ∷ by_version (made_code o x place.copies place.copies) (first_update o x place list)

-- at any index in R4
abbrev pub checked_update : PlainOperation → Source → ArrayPlace → ListPlace → List Form
checked_update o x place list =
    let inside = inside_update o x place list in
    Calculate op.Cmp (Number place.length) R4 ∷ over condition.Carry inside ∷ inside

-- at any index in R4, by whether it is surely below the length
abbrev pub indexed_update : Bool → PlainOperation → Source → ArrayPlace → ListPlace → List Form
indexed_update sure o x place list = if sure then inside_update o x place list else (checked_update o x place list)

-- at a number that is known and below the length: its copy is updated by one instruction
abbrev pub known_update : PlainOperation → Source → ArrayPlace → ListPlace → ℕ → List Form
known_update o x place list k =
    let offset = word_sum k k in
    attempt_form list ∷ Calculate op.Cmp (Fram (word_sum place.versions offset)) R6
    ∷ by_version (Update (plain_instruction o) x (word_sum place.copies offset) ∷ []) (Move (Number offset) (ToRegister R4) ∷ first_update o x place list)

-- a number below a length
abbrev pub if_below : ℕ → Option ℕ → Option ℕ
if_below length None = None
if_below length (Some k) = if nat_lt k length then Some k else None

-- the number below a length that waits under the top
abbrev pub known_index : List Waiting → ℕ → Option ℕ
known_index os length = if_below length (top_number (top_of (below_top os)))

-- an update, whose index is such a number or is not known, but may be surely below the length
abbrev pub update_at : Option ℕ → Bool → List Waiting → PlainOperation → ArrayPlace → ListPlace → List Form
update_at (Some k) sure os o place list = right_to_rest os ++ known_update o (rest_source (top_of os)) place list k
update_at None sure os o place list = update_sides os ++ indexed_update sure o (rest_source (top_of os)) place list

-- ---- an element that is logged and stored in its place

-- the element at the offset in R4 is logged: R7 becomes where the entry stands from the list on, and R6 the element's address. The entry is of both the
-- address and the word there; then it counts, and the version word is the attempt's number
abbrev pub log_code : LoggedPlace → ListPlace → List Form
log_code place list =
    Move (Fram list.cln) (ToRegister R7) ∷ Calculate op.Add (Register R7) R7 ∷ Calculate op.Add (Register R7) R7
    ∷ Move (Register R4) (ToRegister R6) ∷ Calculate op.Add (Number place.elements) R6 ∷ Move (Register R6) (ToIndexed R7 list.list)
    ∷ Move (Indexed R4 place.elements) (ToIndexed R7 (word_sum list.list 2)) ∷ Update op.Add (Constant konst.One) list.cln
    ∷ Move (Fram list.ver) (ToIndexed R4 place.versions) ∷ []

-- the index in R4 becomes the offset; where the version word is the attempt's number, that is passed over
abbrev pub logged_first : LoggedPlace → ListPlace → List Form
logged_first place list =
    double ∷ attempt_form list ∷ Calculate op.Cmp (Indexed R4 place.versions) R6 ∷ over condition.Equal (log_code place list) ∷ log_code place list

-- then what stores the element, by whether the index is surely below the length; else nothing is stored where the index isn't
abbrev pub logged_code : Bool → LoggedPlace → ListPlace → List Form → List Form
logged_code true place list last = logged_first place list ++ last
logged_code false place list last =
    let inside = logged_first place list ++ last in check_code place.length (size inside) ++ inside

-- the word in R5 is the element
abbrev pub kept_in : ℕ → List Form
kept_in elements = Move (Register R5) (ToIndexed R4 elements) ∷ []

-- what an operation gives of the element and of the word in R5 is
abbrev pub made_in : PlainOperation → ℕ → List Form
made_in o elements = made_code o (Register R5) elements elements

-- the index is a number that is known and below the length: R4 becomes the offset only where the element is logged
abbrev pub known_first : LoggedPlace → ListPlace → ℕ → List Form
known_first place list k =
    let offset = word_sum k k in
    let log = Move (Number offset) (ToRegister R4) ∷ log_code place list in
    attempt_form list ∷ Calculate op.Cmp (Fram (word_sum place.versions offset)) R6 ∷ over condition.Equal log ∷ log

-- and one instruction updates it with the word in R5
abbrev pub known_logged : PlainOperation → LoggedPlace → ListPlace → ℕ → List Form
known_logged o place list k =
    known_first place list k ++ Update (plain_instruction o) (Register R5) (word_sum place.elements (word_sum k k)) ∷ []

-- all words below the right side and the index are pushed, and the right side comes to R5
abbrev pub right_to_five : List Waiting → List Form
right_to_five os = flushed (below_top (below_top os)) ++ five_from (top_of os)

-- an update, whose index is such a number or is not known, but may be surely below the length
abbrev pub logged_update_at : Option ℕ → Bool → List Waiting → PlainOperation → LoggedPlace → ListPlace → List Form
logged_update_at (Some k) sure os o place list = right_to_five os ++ known_logged o place list k
logged_update_at None sure os o place list =
    (two_to_registers os ++ flushed (kept (below_top (below_top os)))) ++ logged_code sure place list (made_in o place.elements)

-- ---- longs: the high word of a long is above its low one

-- a long result waits: its high word in R6, its low one in R4
abbrev pub long_waits : List Waiting → List Waiting
long_waits os = waiting.R6 ∷ (waiting.R4 ∷ os)

-- the words that wait below the two on top
abbrev pub below_two : List Waiting → List Waiting
below_two os = below_top (below_top os)

-- a word waits in R6
abbrev pub in_six : Option Waiting → Bool
in_six (Some waiting.R6) = true
in_six _ = false

-- The high word of a long comes to R6 first. Where its low one waits there all words are pushed in front of that
abbrev pub parted : Bool → List Waiting → List Form
parted lost os = if lost then flushed os else []

-- and those that go on waiting
abbrev pub parting : Bool → List Waiting → List Waiting
parting lost os = if lost then [] else os

-- to R6
abbrev pub six_from : Option Waiting → List Form
six_from None = pop_to R6 ∷ []
six_from (Some waiting.R6) = []
six_from (Some o) = Move (waiting_source o) (ToRegister R6) ∷ []

-- the long on top to R6 and R4
abbrev pub pair_from : List Waiting → List Form
pair_from os = six_from (top_of os) ++ four_from (top_of (below_top os))

-- the same, words below it being pushed where one of them waits in a register
abbrev pub pair_to_registers : List Waiting → List Form
pair_to_registers os = cleared (below_two os) ++ pair_from os

-- a word of the right side stays where it waits, but for registers for work; else it comes to this register
abbrev pub side_from : WorkRegister → Option Waiting → List Form
side_from b o = if rests o then [] else (Move (source_from o) (ToRegister b) ∷ [])

-- the word then
abbrev pub side_source : WorkRegister → Option Waiting → Source
side_source b o = if rests o then source_from o else (Register b)

-- two longs: the right side, which is on top, to where it is read, and the left one to R6 and R4
abbrev pub long_sides : List Waiting → List Form
long_sides os =
    let left = below_two os in
    cleared (below_two left) ++ ((side_from R7 (top_of os) ++ side_from R5 (top_of (below_top os))) ++ pair_from left)

-- the words of the right side then
abbrev pub high_source : List Waiting → Source
high_source os = side_source R7 (top_of os)

abbrev pub low_source : List Waiting → Source
low_source os = side_source R5 (top_of (below_top os))

-- what an operation does with the high words: sums and differences take over what the low ones carry
abbrev pub high_instruction : PlainOperation → TwoOp
high_instruction Add = op.Addc
high_instruction Subtract = op.Subc
high_instruction And = op.And
high_instruction Xor = op.Xor
high_instruction Or = op.Bis

-- an operation on the long in R6 and R4 and one whose words are these sources
abbrev pub long_calculation : PlainOperation → Source → Source → List Form
long_calculation o low high = Calculate (plain_instruction o) low R4 ∷ Calculate (high_instruction o) high R6 ∷ []

-- R6 becomes 65535 where there is no carry, else 0
abbrev pub borrow_mask : Form
borrow_mask = Calculate op.Subc (Register R6) R6

-- each bit of R6 turned
abbrev pub turn_bits : Form
turn_bits = Calculate op.Xor (Constant konst.MinusOne) R6

-- the long is below the other: their difference borrows
abbrev pub below_code : Source → Source → List Form
below_code low high = long_calculation Subtract low high ++ borrow_mask ∷ []

-- it is above the other: their difference less 1 doesn't borrow
abbrev pub above_code : Source → Source → List Form
above_code low high =
    Calculate op.Bit (Constant konst.Zero) R4 ∷ Calculate op.Subc low R4 ∷ Calculate op.Subc high R6 ∷ borrow_mask ∷ turn_bits ∷ []

-- forms so many times
abbrev pub times_code : ℕ → List Form → List Form
times_code zero ms = []
times_code (suc k) ms = ms ++ times_code k ms

-- the long in R6 and R4 doubled
abbrev pub long_double : List Form
long_double = Calculate op.Add (Register R4) R4 ∷ Calculate op.Addc (Register R6) R6 ∷ []

-- halved, its top bit being 0
abbrev pub long_halve : List Form
long_halve = Modify change.Rra R6 ∷ Modify change.Rrc R4 ∷ []

-- eight bits to the left: the bytes of both words are exchanged, and the lower one of the high word then comes from the low word
abbrev pub byte_to_left : List Form
byte_to_left =
    Modify change.Swpb R4 ∷ Modify change.Swpb R6 ∷ Calculate op.And (Number 0xFF00) R6 ∷ Calculate op.Add (Register R4) R6
    ∷ Calculate op.And (Number 0xFF00) R4 ∷ Calculate op.Sub (Register R4) R6 ∷ []

-- and to the right, the other way round
abbrev pub byte_to_right : List Form
byte_to_right =
    Modify change.Swpb R6 ∷ Modify change.Swpb R4 ∷ Calculate op.And (Number 0xFF) R4 ∷ Calculate op.Add (Register R6) R4
    ∷ Calculate op.And (Number 0xFF) R6 ∷ Calculate op.Sub (Register R6) R4 ∷ []

-- to the right by fewer than 8 bits: first a 0 comes in
abbrev pub long_right_code : ℕ → List Form
long_right_code zero = []
long_right_code (suc k) =
    Calculate op.Bit (Constant konst.Zero) R4 ∷ Modify change.Rrc R6 ∷ Modify change.Rrc R4 ∷ times_code k long_halve

-- a long shifted by fewer than 16 bits
abbrev pub left_by : ℕ → List Form
left_by k = if nat_lt k 8 then times_code k long_double else (byte_to_left ++ times_code (k - 8) long_double)

abbrev pub right_by : ℕ → List Form
right_by k = if nat_lt k 8 then long_right_code k else (byte_to_right ++ times_code (k - 8) long_halve)

-- the top isn't wanted: where it doesn't wait it is popped
abbrev pub dropped : Option Waiting → List Form
dropped None = pop_to R5 ∷ []
dropped (Some o) = []

-- the top comes to wait where it doesn't
abbrev pub lifted : Option Waiting → List Form
lifted None = pop_to R4 ∷ []
lifted (Some o) = []

abbrev pub lifted_word : Option Waiting → Waiting
lifted_word None = waiting.R4
lifted_word (Some o) = o

-- of the long on top the high word
abbrev pub high_code : List Waiting → List Form
high_code os = lifted (top_of os) ++ dropped (top_of (below_top os))

abbrev pub high_behind : List Waiting → List Waiting
high_behind os = lifted_word (top_of os) ∷ below_two os

-- the low word of the long on top waits in R6
abbrev pub pair_lost : List Waiting → Bool
pair_lost os = in_six (top_of (below_top os))

-- the long on top to R6 and R4, and what is made of it there
abbrev pub short_code : List Waiting → List Form → List Form
short_code os ms = let lost = pair_lost os in parted lost os ++ (pair_to_registers (parting lost os) ++ ms)

abbrev pub short_behind : List Waiting → List Waiting
short_behind os = long_waits (kept (below_two (parting (pair_lost os) os)))

-- a shift of the long on top, by whether it is by fewer than 16 bits; else one word is 0, and the other is the other one, shifted by those
-- that are left
abbrev pub left_code : Bool → List Waiting → ℕ → List Form
left_code true os k = short_code os (left_by k)
left_code false os k = dropped (top_of os) ++ (top_to_four (below_top os) ++ shift_middle Left (k - 16))

abbrev pub left_behind : Bool → List Waiting → List Waiting
left_behind true os = short_behind os
left_behind false os = waiting.R4 ∷ (waiting.Number 0 ∷ kept (below_two os))

abbrev pub right_shift_code : Bool → List Waiting → ℕ → List Form
right_shift_code true os k = short_code os (right_by k)
right_shift_code false os k = high_code os ++ (top_to_four (high_behind os) ++ shift_middle Right (k - 16))

abbrev pub right_behind : Bool → List Waiting → List Waiting
right_behind true os = short_behind os
right_behind false os = waiting.Number 0 ∷ (waiting.R4 ∷ kept (below_two os))

-- each bit of the long in R6 and R4 turned
abbrev pub complement_code : List Form
complement_code = Calculate op.Xor (Constant konst.MinusOne) R4 ∷ turn_bits ∷ []

-- an int in R4 becomes long: what its double carries is its sign
abbrev pub widen_code : List Form
widen_code = Move (Register R4) (ToRegister R6) ∷ Calculate op.Add (Register R6) R6 ∷ borrow_mask ∷ turn_bits ∷ []

-- the low word of the left one of two longs waits in R6
abbrev pub longs_lost : List Waiting → Bool
longs_lost os = in_six (top_of (below_top (below_two os)))

-- an operation on two longs, by what is made of the left one in R6 and R4 and of where the low and the high word of the right one are read
abbrev pub longs_code : (Source → Source → List Form) → List Waiting → List Form
longs_code made os =
    let lost = longs_lost os in
    let ps = parting lost os in
    parted lost os ++ (long_sides ps ++ made (low_source ps) (high_source ps))

-- the words that wait below them then
abbrev pub longs_under : List Waiting → List Waiting
longs_under os = kept (below_two (below_two (parting (longs_lost os) os)))

-- the code of an operation with longs
abbrev pub long_code : LongOperation → List Waiting → List Form
long_code (with_longs.Calculate o) os = longs_code (long_calculation o) os
long_code with_longs.Below os = longs_code below_code os
long_code with_longs.Above os = longs_code above_code os
long_code (with_longs.ShiftLeft k) os = left_code (nat_lt k 16) os k
long_code (with_longs.ShiftRight k) os = right_shift_code (nat_lt k 16) os k
long_code with_longs.Complement os = short_code os complement_code
long_code with_longs.Widen os = top_to_four os ++ widen_code
long_code with_longs.Join os = []
long_code with_longs.LowWord os = dropped (top_of os)
long_code with_longs.HighWord os = high_code os

-- and what waits behind it
abbrev pub long_behind : LongOperation → List Waiting → List Waiting
long_behind (with_longs.Calculate o) os = long_waits (longs_under os)
long_behind with_longs.Below os = waiting.R6 ∷ longs_under os
long_behind with_longs.Above os = waiting.R6 ∷ longs_under os
long_behind (with_longs.ShiftLeft k) os = left_behind (nat_lt k 16) os
long_behind (with_longs.ShiftRight k) os = right_behind (nat_lt k 16) os
long_behind with_longs.Complement os = short_behind os
long_behind with_longs.Widen os = long_waits (kept (below_top os))
long_behind with_longs.Join os = os
long_behind with_longs.LowWord os = below_top os
long_behind with_longs.HighWord os = high_behind os

-- ---- the ring

-- R4 becomes the index of its next word for the attempt: TAIL, and how many words that has taken
abbrev pub index_code : List Form
index_code = Move (Fram tail_place) (ToRegister R4) ∷ Calculate op.Add (Fram count_place) R4 ∷ []

-- R5 becomes the offset of the slot of the index in R4
abbrev pub offset_code : List Form
offset_code =
    Move (Register R4) (ToRegister R5) ∷ Calculate op.And (Number (ring_slots - 1)) R5 ∷ Calculate op.Add (Register R5) R5 ∷ []

-- the index is compared with HEAD; R4 becomes the word of the slot, or 0 where they are equal. MOV leaves the flags
abbrev pub look_code : List Form
look_code = Calculate op.Cmp Head R4 ∷ Move (Slot R5) (ToRegister R4) ∷ over condition.NotEqual zeroed ∷ zeroed

-- the attempt has taken one word more
abbrev pub taken_code : List Form
taken_code = Update op.Add (Constant konst.One) count_place ∷ []

-- R4 is stored as the answer; where the index isn't HEAD, it is a word that the attempt has taken
abbrev pub answer_code : List Form
answer_code = Move (Register R4) (ToFram answer_place) ∷ over condition.Equal taken_code ∷ taken_code

-- the answer, in R4
abbrev pub event_code : List Form
event_code = index_code ++ (offset_code ++ (look_code ++ answer_code))

-- the index of the next word is stored as TAIL that the transition leaves
abbrev pub freeze_code : List Form
freeze_code = index_code ++ Move (Register R4) (ToFram sent_place) ∷ []

-- a local is pushed where it stands in RAM
abbrev pub local_code : List Waiting → ℕ → List Form
local_code os n = if nat_lt n 8 then [] else (flushed os ++ Push (Ram (local_address n)) ∷ [])

-- ---- functions: their values are in their first locals as they are entered, and the word that they give is in R4 behind them

-- the words that wait below so many
abbrev pub below_words : ℕ → List Waiting → List Waiting
below_words zero os = os
below_words (suc n) os = below_words n (below_top os)

-- so many words on top come to registers of locals, from a local on: the top to the last
abbrev pub values_code : (first count : ℕ) → List Waiting → List Form
values_code first zero os = []
values_code first (suc n) os = Move (source_from (top_of os)) (ToRegister (local_register (first + n))) ∷ values_code first n (below_top os)

-- a call of a function whose locals stand in registers: what waits below its values is pushed in front of the call
abbrev pub light_call : (entry first count : ℕ) → List Waiting → List Form
light_call entry first count os = (values_code first count os ++ flushed (below_words count os)) ++ Call entry ∷ []

-- so many words of the stack, from R4's address on, come to locals: the first to the last
abbrev pub frame_code : (first count : ℕ) → List Form
frame_code first zero = []
frame_code first (suc n) = Move (StackNext R4) (local_target (first + n)) ∷ frame_code first n

-- a call of a function with locals in RAM: SP is set below them, in front of its call the caller's SP is pushed, and behind it that is SP again
abbrev pub framed_call : (entry frame first count : ℕ) → List Waiting → List Form
framed_call entry frame first count os =
    flushed os ++ (KeepStack R4 ∷ SetStack frame ∷ (frame_code first count ++ Push (Register R4) ∷ Call entry ∷ RestoreStack ∷ []))

-- by whether it has some
abbrev pub call_code : (entry : ℕ) → Option ℕ → (first count : ℕ) → List Waiting → List Form
call_code entry None first count os = light_call entry first count os
call_code entry (Some f) first count os = framed_call entry f first count os

-- the word that a function gives comes to R4, and it returns
abbrev pub give_code : List Waiting → List Form
give_code os = four_from (top_of os) ++ Return ∷ []

-- what waits behind a step; nothing does behind other stores, behind an assignment to a local and where ways part or meet
abbrev pub waiting_behind : List Waiting → Step → List Waiting
waiting_behind os (number w) = waiting.Number w ∷ os
waiting_behind os (load a) = waiting.Fram a ∷ os
waiting_behind os (keep a) = sparing a (below_top os)
waiting_behind os (local n) = if nat_lt n 8 then waiting.Local n ∷ os else []
waiting_behind os (unary operation) = waiting.R4 ∷ kept (below_top os)
waiting_behind os (binary operation) = power_result (top_power (top_of os)) operation ∷ kept (below_top (below_top os))
waiting_behind os (shift operation k) = waiting.R4 ∷ kept (below_top os)
waiting_behind os (long operation) = long_behind operation os
waiting_behind os (element base length) = element_behind (top_number (top_of os)) os base length
waiting_behind os (versioned_read place list) = waiting.R4 ∷ kept (below_top os)
waiting_behind os sense = waiting.R4 ∷ kept os
waiting_behind os next_event = waiting.R4 ∷ []
waiting_behind os (call entry frame first count body) = waiting.R4 ∷ []
waiting_behind os _ = []

-- what waits behind a program
abbrev pub waiting_after : List Waiting → Program → List Waiting
waiting_after os nothing = os
waiting_after os (step first more) = waiting_after (waiting_behind os first) more

abbrev mutual
  -- the code of a step in the bodies of loops with these bounds, where these words wait
  pub step_code : List Bound → List Waiting → Step → List Form
  step_code bs os (number w) = []
  step_code bs os (load a) = []
  step_code bs os (keep a) = spared a (below_top os) ++ Move (source_from (top_of os)) (ToFram a) ∷ []
  step_code bs os (update o a) = flushed (below_top os) ++ Update (plain_instruction o) (source_from (top_of os)) a ∷ []
  step_code bs os (local n) = local_code os n
  step_code bs os (set_local n) = flushed (below_top os) ++ Move (source_from (top_of os)) (local_target n) ∷ []
  step_code bs os (update_local o n) = flushed (below_top os) ++ update_code o n (source_from (top_of os))
  step_code bs os (unary operation) = top_to_five os ++ unary_middle operation
  step_code bs os (binary operation) = power_code (top_power (top_of os)) os operation
  step_code bs os (shift operation k) = top_to_four os ++ shift_middle operation k
  step_code bs os (long operation) = long_code operation os
  step_code bs os (element base length) =
      element_at (is_inside bs (top_of os) length) (top_number (top_of os)) os base length
  step_code bs os (emit_word count buffer) = (top_to_five os ++ flushed (kept (below_top os))) ++ emit_code count buffer
  step_code bs os (list_entry count list home copy words) = flushed os ++ entry_code count list home copy words
  step_code bs os (versioned_read place list) =
      top_to_four os ++ read_code (is_inside bs (top_of os) place.length) place list
  step_code bs os (versioned_write place list) =
      (two_to_registers os ++ flushed (kept (below_top (below_top os)))) ++ write_code (is_inside bs (top_of (below_top os)) place.length) place list
  step_code bs os (versioned_update o place list) =
      update_at (known_index os place.length) (is_inside bs (top_of (below_top os)) place.length) os o place list
  step_code bs os (logged_write place list) =
      (two_to_registers os ++ flushed (kept (below_top (below_top os))))
      ++ logged_code (is_inside bs (top_of (below_top os)) place.length) place list (kept_in place.elements)
  step_code bs os (logged_update o place list) =
      logged_update_at (known_index os place.length) (is_inside bs (top_of (below_top os)) place.length) os o place list
  step_code bs os sense = cleared os ++ forms.Sense R4 ∷ []
  step_code bs os next_event = flushed os ++ event_code
  step_code bs os freeze_events = flushed os ++ freeze_code
  step_code bs os (truth t) = flushed os ++ (test_code bs t false (size one_pushed) ++ truth_code)
  step_code bs os (choose t taken otherwise) =
      let other = steps_code bs [] otherwise ++ flushed (waiting_after [] otherwise) in
      let first = (steps_code bs [] taken ++ flushed (waiting_after [] taken)) ++ pass_over (size other) in
      flushed os ++ (test_code bs t false (size first) ++ (first ++ other))
  step_code bs os (repeat n from below body) =
      let block = steps_code (bound_of n below ∷ bs) [] body ++ flushed (waiting_after [] body) in
      flushed os ++ (number_code n from ++ (if nat_lt from below then turns_code n below block else []))
  step_code bs os (store_number a w) = flushed os ++ Move (number_source w) (ToFram a) ∷ []
  step_code bs os (move_word from to) = flushed os ++ Move (Fram from) (ToFram to) ∷ []
  step_code bs os (jump to) = flushed os ++ Branch to ∷ []
  step_code bs os (call entry frame first count body) = call_code entry frame first count os
  step_code bs os give = give_code os

  -- the code of a test: it goes over so many words behind it where the test's truth is this one, else on
  pub test_code : List Bound → Test → Bool → ℕ → List Form
  test_code bs (holds p) when d = steps_code bs [] p ++ holds_code (waiting_after [] p) when d
  test_code bs (compares c p) when d = steps_code bs [] p ++ compares_code (waiting_after [] p) c when d
  test_code bs (both t u) when d =
      let second = test_code bs u when d in
      test_code bs t false (size second + (if not when then d else 0)) ++ second
  test_code bs (either t u) when d =
      let second = test_code bs u when d in
      test_code bs t true (size second + (if when then d else 0)) ++ second
  test_code bs (fails t) when d = test_code bs t (not when) d

  -- the code of steps, one after another
  pub steps_code : List Bound → List Waiting → Program → List Form
  steps_code bs os nothing = []
  steps_code bs os (step first more) = step_code bs os first ++ steps_code bs (waiting_behind os first) more

-- the same with no word waiting in front of the steps or behind them
abbrev pub block_code : List Bound → Program → List Form
block_code bs p = steps_code bs [] p ++ flushed (waiting_after [] p)

-- the code of a program: the stack has its place, and then its steps
abbrev pub code_of : Program → List Form
code_of p = stack_set (locals_of p) ++ block_code [] p

-- the code of a function's body
abbrev pub routine_code : Program → List Form
routine_code body = block_code [] body

-- the cycles of a program's code from a state on, at most, on the way that the program takes
abbrev pub code_spent : Program → WordState → ℕ
code_spent p s = stack_cycles + spent p s
