-- Each step keeps to the allowance.
use Rattle.std.proofs.Common.{◌≡◌, ℕ, zero, suc, ◌+◌, ◌-◌, ◌<◌, ◌≤◌, ◌==◌, refl, arith, Bool, true, false, nat_le, nat_lt, ltb-true, if◌then◌else◌}
use Rattle.std.proofs.Common.{Option, Some, None, ◌*◌}
use Rattle.std.proofs.lemmas.Bool.Decides.{nat_tests}
use Rattle.array_versions.specs.declared.operations.UnaryOperation.{UnaryOperation}
use Rattle.array_versions.specs.declared.operations.UnaryOperation.TheVariants.{Negate, Complement}
use Rattle.array_versions.specs.declared.operations.BinaryOperation.{BinaryOperation}
use Rattle.array_versions.specs.declared.operations.BinaryOperation.TheVariants.{Multiply}
use Rattle.array_versions.specs.declared.operations.ShiftOperation.{ShiftOperation}
use Rattle.array_versions.specs.declared.operations.ShiftOperation.TheVariants.{Left, Right, SignedRight}
use Rattle.array_versions.specs.declared.operations.LongOperation.{LongOperation}
use Rattle.array_versions.specs.declared.operations.LongOperation.TheVariants.{ShiftLeft}
use Rattle.array_versions.specs.Program.{unary, binary, shift, long}
use Rattle.array_versions.specs.Program.{list_entry}
use Rattle.array_versions.specs.Program.{repeat, call, holds}
use Rattle.array_versions.specs.Cost.{unary_cycles, unary_words, binary_cycles, binary_words, right_words, shift_words, long_cycles, long_words, call_cycles}
use Rattle.array_versions.specs.Cost.{call_words, cycles_of}
use Rattle.array_versions.specs.Allowance.{binary_allowance, long_allowance, StepsKeepToCycles, StepsKeepToWords, TestsKeepToCycles, TestsKeepToWords}

unary_cycles_kept : (o : UnaryOperation) → unary_cycles o ≤ 40
unary_cycles_kept Negate = omega arith
unary_cycles_kept Complement = omega arith

unary_words_kept : (o : UnaryOperation) → unary_words o ≤ 16
unary_words_kept Negate = omega arith
unary_words_kept Complement = omega arith

-- of each operation alike: the first clause makes it a proof by cases
binary_cycles_kept : (o : BinaryOperation) → binary_cycles o ≤ binary_allowance o
binary_cycles_kept Multiply = omega arith
binary_cycles_kept _ = omega arith

binary_words_kept : (o : BinaryOperation) → binary_words o ≤ 16
binary_words_kept Multiply = omega arith
binary_words_kept _ = omega arith

pub right_low : (k : ℕ) → right_words k ≤ k + 1
right_low zero = omega arith
right_low (suc k) = omega arith

by_eight : (b : Bool) (k m n : ℕ) → nat_lt k 8 ≡ b → k ≤ 15 → m ≤ k + 1 → n ≤ 3 + (k - 8) → (if b then m else n) ≤ 10
by_eight true k m n e l h j = let less : k < 8 = ltb-true k 8 e in omega arith
by_eight false k m n e l h j = omega arith

shift_low : (o : ShiftOperation) (k : ℕ) → k ≤ 15 → shift_words o k ≤ 10
shift_low Left k l = by_eight (nat_lt k 8) k k (3 + (k - 8)) refl l (omega arith) (omega arith)
shift_low Right k l = by_eight (nat_lt k 8) k (right_words k) (3 + (k - 8)) refl l (right_low k) (omega arith)
shift_low SignedRight k l = by_eight (nat_lt k 8) k k (2 + (k - 8)) refl l (omega arith) (omega arith)

shift_kept : (b : Bool) (o : ShiftOperation) (k : ℕ) → nat_le k 15 ≡ b → 2 + (if b then shift_words o k else 1) ≤ 16
shift_kept true o k e = let l : k ≤ 15 = grind (arith, nat_tests) in omega (arith, shift_low o k l)
shift_kept false o k e = omega arith

long_cycles_kept : (o : LongOperation) → long_cycles o ≤ long_allowance o
long_cycles_kept (ShiftLeft k) = omega arith
long_cycles_kept _ = omega arith

long_words_kept : (o : LongOperation) → long_words o ≤ 32
long_words_kept (ShiftLeft k) = omega arith
long_words_kept _ = omega arith

-- a call of so many values
call_cycles_kept : (frame : Option ℕ) (count : ℕ) → call_cycles frame count ≤ 60 + 5 * (count - 8)
call_cycles_kept None count = omega arith
call_cycles_kept (Some f) count = omega arith

call_words_kept : (frame : Option ℕ) (count : ℕ) → call_words frame count ≤ 24 + 4 * count
call_words_kept None count = omega arith
call_words_kept (Some f) count = omega arith

pub steps_keep_to_cycles : StepsKeepToCycles
steps_keep_to_cycles (unary o) = unary_cycles_kept o
steps_keep_to_cycles (binary o) = binary_cycles_kept o
steps_keep_to_cycles (long o) = long_cycles_kept o
steps_keep_to_cycles (repeat n from below body) = let turns = below - from in let c = cycles_of body in omega arith
steps_keep_to_cycles (call entry frame first count body) = omega (arith, call_cycles_kept frame count)
steps_keep_to_cycles _ = omega arith

-- an entry's words
entry_kept : (b : Bool) → (if b then 16 else 17) ≤ (if b then 16 else 32)
entry_kept true = omega arith
entry_kept false = omega arith

-- each step keeps to its words
pub steps_keep_to_words : StepsKeepToWords
steps_keep_to_words (unary o) = unary_words_kept o
steps_keep_to_words (binary o) = binary_words_kept o
steps_keep_to_words (shift o k) = shift_kept (nat_le k 15) o k refl
steps_keep_to_words (long o) = long_words_kept o
steps_keep_to_words (list_entry count list home copy words) = entry_kept (words == 1)
steps_keep_to_words (call entry frame first count body) = call_words_kept frame count
steps_keep_to_words _ = omega arith

-- each test keeps to its cycles
pub tests_keep_to_cycles : TestsKeepToCycles
tests_keep_to_cycles (holds p) = omega arith
tests_keep_to_cycles _ = omega arith

-- and to its words
pub tests_keep_to_words : TestsKeepToWords
tests_keep_to_words (holds p) = omega arith
tests_keep_to_words _ = omega arith
