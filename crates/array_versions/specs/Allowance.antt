-- What the statements and expressions of a source allow their code, in cycles and words, parts aside; and that each step keeps to it.
use Rattle.std.specs.Prelude.{ℕ, ◌+◌, ◌-◌, ◌*◌, ◌≤◌, ◌==◌, if◌then◌else◌, max}
use Rattle.array_versions.specs.declared.operations.BinaryOperation.{BinaryOperation}
use Rattle.array_versions.specs.declared.operations.BinaryOperation.TheVariants.{Multiply, Divide, Remainder}
use Rattle.array_versions.specs.declared.operations.LongOperation.{LongOperation}
use Rattle.array_versions.specs.declared.operations.LongOperation.TheVariants.{ShiftLeft, ShiftRight}
use Rattle.array_versions.specs.Program.{Step, Test, number, load, keep, update, local, set_local, update_local, unary, binary, shift, long, element}
use Rattle.array_versions.specs.Program.{emit_word}
use Rattle.array_versions.specs.Program.{list_entry}
use Rattle.array_versions.specs.Program.{versioned_read, versioned_write, versioned_update, logged_write, logged_update, sense, next_event, freeze_events}
use Rattle.array_versions.specs.Program.{truth, choose, repeat}
use Rattle.array_versions.specs.Program.{store_number}
use Rattle.array_versions.specs.Program.{move_word, jump, call, give, holds}
use Rattle.array_versions.specs.Program.{compares}
use Rattle.array_versions.specs.Program.{both, either, fails}
use Rattle.array_versions.specs.Cost.{step_cycles, test_cycles, cycles_of, step_words, test_words, words_of}

-- the cycles of an operation on two words
abbrev pub binary_allowance : BinaryOperation → ℕ
binary_allowance Multiply = 300
binary_allowance Divide = 400
binary_allowance Remainder = 400
binary_allowance _ = 40

-- the cycles of an operation with longs
abbrev pub long_allowance : LongOperation → ℕ
long_allowance (ShiftLeft k) = 400
long_allowance (ShiftRight k) = 400
long_allowance _ = 80

-- the cycles of a step: of what an expression or a statement is made of, those of its row in the table of the allowance. An entry
-- of the commit list has 40, and what a transition stores and its jump have 100 together. A call has its row where there are at most eight values, as
-- in each source
abbrev pub allowed_cycles : Step → ℕ
allowed_cycles (number w) = 40
allowed_cycles (load a) = 40
allowed_cycles (keep a) = 40
allowed_cycles (update op a) = 40
allowed_cycles (local n) = 40
allowed_cycles (set_local n) = 40
allowed_cycles (update_local op n) = 40
allowed_cycles (unary op) = 40
allowed_cycles (binary op) = binary_allowance op
allowed_cycles (shift op k) = 100
allowed_cycles (long op) = long_allowance op
allowed_cycles (element base length) = 60
allowed_cycles (emit_word count buffer) = 60
allowed_cycles (list_entry count list home copy words) = 40
allowed_cycles (versioned_read place list) = 60
allowed_cycles (versioned_write place list) = 120
allowed_cycles (versioned_update op place list) = 220
allowed_cycles (logged_write place list) = 120
allowed_cycles (logged_update op place list) = 220
allowed_cycles sense = 40
allowed_cycles next_event = 80
allowed_cycles freeze_events = 15
allowed_cycles (truth t) = 40 + test_cycles t
allowed_cycles (choose t taken otherwise) = 40 + test_cycles t + max (cycles_of taken) (cycles_of otherwise)
allowed_cycles (repeat n from below body) = 40 + (below - from) * (40 + cycles_of body)
allowed_cycles (store_number a w) = 25
allowed_cycles (move_word from to) = 25
allowed_cycles (jump to) = 10
allowed_cycles (call entry frame first count body) = 60 + 5 * (count - 8) + cycles_of body
allowed_cycles give = 40

-- the words of an entry: those of one scalar, and of two or more where it has more words
abbrev pub entry_allowance : ℕ → ℕ
entry_allowance words = if words == 1 then 16 else 32

-- its words. What a transition stores and its jump have 40 together
abbrev pub allowed_words : Step → ℕ
allowed_words (number w) = 16
allowed_words (load a) = 16
allowed_words (keep a) = 24
allowed_words (update op a) = 24
allowed_words (local n) = 16
allowed_words (set_local n) = 24
allowed_words (update_local op n) = 24
allowed_words (unary op) = 16
allowed_words (binary op) = 16
allowed_words (shift op k) = 16
allowed_words (long op) = 32
allowed_words (element base length) = 24
allowed_words (emit_word count buffer) = 24
allowed_words (list_entry count list home copy words) = entry_allowance words
allowed_words (versioned_read place list) = 24
allowed_words (versioned_write place list) = 60
allowed_words (versioned_update op place list) = 100
allowed_words (logged_write place list) = 60
allowed_words (logged_update op place list) = 100
allowed_words sense = 16
allowed_words next_event = 40
allowed_words freeze_events = 8
allowed_words (truth t) = 16 + test_words t
allowed_words (choose t taken otherwise) = 24 + test_words t + words_of taken + words_of otherwise
allowed_words (repeat n from below body) = 24 + words_of body
allowed_words (store_number a w) = 8
allowed_words (move_word from to) = 8
allowed_words (jump to) = 8
allowed_words (call entry frame first count body) = 24 + 4 * count
allowed_words give = 24

-- the cycles of a test: of a word or a comparison those of its row; `&&`, `||` and `!` have none beside their parts
abbrev pub allowed_test_cycles : Test → ℕ
allowed_test_cycles (holds p) = 40 + cycles_of p
allowed_test_cycles (compares op p) = 40 + cycles_of p
allowed_test_cycles (both t u) = test_cycles t + test_cycles u
allowed_test_cycles (either t u) = test_cycles t + test_cycles u
allowed_test_cycles (fails t) = test_cycles t

-- its words
abbrev pub allowed_test_words : Test → ℕ
allowed_test_words (holds p) = 16 + words_of p
allowed_test_words (compares op p) = 16 + words_of p
allowed_test_words (both t u) = test_words t + test_words u
allowed_test_words (either t u) = test_words t + test_words u
allowed_test_words (fails t) = test_words t

-- each step keeps to its cycles
abbrev pub StepsKeepToCycles : Type 0
StepsKeepToCycles = (s : Step) → step_cycles s ≤ allowed_cycles s

-- each step keeps to its words
abbrev pub StepsKeepToWords : Type 0
StepsKeepToWords = (s : Step) → step_words s ≤ allowed_words s

-- each test keeps to its cycles
abbrev pub TestsKeepToCycles : Type 0
TestsKeepToCycles = (t : Test) → test_cycles t ≤ allowed_test_cycles t

-- each test keeps to its words
abbrev pub TestsKeepToWords : Type 0
TestsKeepToWords = (t : Test) → test_words t ≤ allowed_test_words t
