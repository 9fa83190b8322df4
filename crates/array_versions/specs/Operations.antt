-- What the operations give, by the arithmetic of words.
use Rattle.std.specs.Prelude.{ℕ, ◌^◌, ◌+◌, ◌-◌, ◌*◌, ◌/◌, ◌%◌, ◌==◌, Bool, not, nat_le, nat_lt, bit_and, bit_or, bit_xor, if◌then◌else◌, List, [], ◌∷◌}
use Rattle.std.specs.Prelude.{slice_index}
use Rattle.machine_effects.specs.alp_words.Words.{word_sum, word_difference, word_product, quotient, remainder, arithmetic_shift, biased}
pub use Rattle.machine_effects.specs.alp_words.Words.{two_words, sign_word}
use Rattle.array_versions.specs.declared.operations.UnaryOperation.{UnaryOperation}
use Rattle.array_versions.specs.declared.operations.UnaryOperation.TheVariants.{Negate, Complement}
use Rattle.array_versions.specs.declared.operations.BinaryOperation.{BinaryOperation}
use Rattle.array_versions.specs.declared.operations.BinaryOperation.TheVariants.{Multiply, Divide, Remainder, Plain}
use Rattle.array_versions.specs.declared.operations.PlainOperation.{PlainOperation}
use Rattle.array_versions.specs.declared.operations.PlainOperation.TheVariants.{Add, Subtract, And, Xor, Or}
use Rattle.array_versions.specs.declared.operations.Comparison.{Comparison}
use Rattle.array_versions.specs.declared.operations.Comparison.TheVariants.{Equal, Below, Above, SignedBelow, SignedAbove, CommonBit}
use Rattle.array_versions.specs.declared.operations.ShiftOperation.{ShiftOperation}
use Rattle.array_versions.specs.declared.operations.ShiftOperation.TheVariants.{Left, Right, SignedRight}
use Rattle.array_versions.specs.declared.operations.LongOperation.{LongOperation}
use Rattle.array_versions.specs.declared.operations.LongOperation.TheVariants as with_longs

-- an operation on one word
abbrev pub unary_word : UnaryOperation → ℕ → ℕ
unary_word Negate v = word_difference 0 v
unary_word Complement v = 65535 - v

-- an operation on two words that is one instruction
abbrev pub plain_word : PlainOperation → ℕ → ℕ → ℕ
plain_word Add u v = word_sum u v
plain_word Subtract u v = word_difference u v
plain_word And u v = bit_and u v
plain_word Xor u v = bit_xor u v
plain_word Or u v = bit_or u v

-- an operation on two words
abbrev pub binary_word : BinaryOperation → ℕ → ℕ → ℕ
binary_word Multiply u v = word_product u v
binary_word Divide u v = quotient u v
binary_word Remainder u v = remainder u v
binary_word (Plain op) u v = plain_word op u v

-- a word is a condition, which holds where it isn't 0
abbrev pub is_true : ℕ → Bool
is_true v = not (v == 0)

-- whether two words compare so; as signed words the values raised by 8000 are compared
abbrev pub compare_words : Comparison → ℕ → ℕ → Bool
compare_words Equal u v = u == v
compare_words Below u v = nat_lt u v
compare_words Above u v = nat_lt v u
compare_words SignedBelow u v = nat_lt (biased u) (biased v)
compare_words SignedAbove u v = nat_lt (biased v) (biased u)
compare_words CommonBit u v = is_true (bit_and u v)

-- a shift by at most 15 bits
abbrev pub shifted_word : ShiftOperation → ℕ → ℕ → ℕ
shifted_word Left v k = word_product v (2 ^ k)
shifted_word Right v k = v / 2 ^ k
shifted_word SignedRight v k = arithmetic_shift v k

-- a shift by any count: 0 by more than 15 bits
abbrev pub shift_word : ShiftOperation → ℕ → ℕ → ℕ
shift_word op v k = if nat_le k 15 then shifted_word op v k else 0

-- ---- longs, which are numbers below 2^32

-- a long on the stack: its high word on top
abbrev pub stacked : ℕ → List ℕ
stacked n = n / 65536 ∷ n % 65536 ∷ []

-- the long whose high word is at this index of words from the top of the stack on
abbrev pub long_at : List ℕ → ℕ → ℕ
long_at words i = two_words (slice_index words (i + 1)) (slice_index words i)

-- an operation on two longs
abbrev pub plain_long : PlainOperation → ℕ → ℕ → ℕ
plain_long Add a b = (a + b) % 2 ^ 32
plain_long Subtract a b = (a + (2 ^ 32 - b)) % 2 ^ 32
plain_long And a b = bit_and a b
plain_long Xor a b = bit_xor a b
plain_long Or a b = bit_or a b

-- a long shifted to the left by any count: 0 by more than 31 bits
abbrev pub long_to_left : ℕ → ℕ → ℕ
long_to_left a k = if nat_le k 31 then (a * 2 ^ k) % 2 ^ 32 else 0

-- the same to the right
abbrev pub long_to_right : ℕ → ℕ → ℕ
long_to_right a k = if nat_le k 31 then a / 2 ^ k else 0

-- a word with each bit 1 where this holds, else with none
abbrev pub all_bits : Bool → ℕ
all_bits b = if b then 65535 else 0

-- how many words an operation with longs takes from the stack
abbrev pub long_pops : LongOperation → ℕ
long_pops (with_longs.Calculate op) = 4
long_pops with_longs.Below = 4
long_pops with_longs.Above = 4
long_pops (with_longs.ShiftLeft k) = 2
long_pops (with_longs.ShiftRight k) = 2
long_pops with_longs.Complement = 2
long_pops with_longs.Widen = 1
long_pops with_longs.Join = 2
long_pops with_longs.LowWord = 2
long_pops with_longs.HighWord = 2

-- and how many it gives
abbrev pub long_pushes : LongOperation → ℕ
long_pushes (with_longs.Calculate op) = 2
long_pushes with_longs.Below = 1
long_pushes with_longs.Above = 1
long_pushes (with_longs.ShiftLeft k) = 2
long_pushes (with_longs.ShiftRight k) = 2
long_pushes with_longs.Complement = 2
long_pushes with_longs.Widen = 2
long_pushes with_longs.Join = 2
long_pushes with_longs.LowWord = 1
long_pushes with_longs.HighWord = 1

-- the words that it gives for those that it takes, the top first in both. Of two longs the right side is on top
abbrev pub long_result : LongOperation → List ℕ → List ℕ
long_result (with_longs.Calculate op) words = stacked (plain_long op (long_at words 2) (long_at words 0))
long_result with_longs.Below words = all_bits (nat_lt (long_at words 2) (long_at words 0)) ∷ []
long_result with_longs.Above words = all_bits (nat_lt (long_at words 0) (long_at words 2)) ∷ []
long_result (with_longs.ShiftLeft k) words = stacked (long_to_left (long_at words 0) k)
long_result (with_longs.ShiftRight k) words = stacked (long_to_right (long_at words 0) k)
long_result with_longs.Complement words = stacked (4294967295 - long_at words 0)
long_result with_longs.Widen words = stacked (two_words (slice_index words 0) (sign_word (slice_index words 0)))
long_result with_longs.Join words = stacked (long_at words 0)
long_result with_longs.LowWord words = slice_index words 1 ∷ []
long_result with_longs.HighWord words = slice_index words 0 ∷ []
