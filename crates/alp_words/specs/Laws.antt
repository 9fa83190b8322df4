-- What the operations mean as arithmetic on signed values, on decimal digits and on bytes.
use Rattle.std.specs.Prelude.{ℕ, zero, suc, ◌≡◌, ◌+◌, ◌-◌, ◌*◌, ◌/◌, ◌%◌, ◌^◌, ◌<◌, ◌≤◌, ◌↔◌, ◌⊎◌, Bool, true, not, IsTrue, MatchBool, ℤ, pos, ◌+ℤ◌, ◌-ℤ◌}
use Rattle.std.specs.Prelude.{◌≤ℤ◌, ◌<ℤ◌}
use Rattle.alp_words.specs.declared.Width.{Width}
use Rattle.alp_words.specs.declared.Width.TheVariants.{Word, Byte}
use Rattle.alp_words.specs.declared.Flags.{Flags}
use Rattle.alp_words.specs.Words.{IsWord, IsByte, word_sum, word_difference, modulus, sign_weight, operand, is_negative, signed_value, same, bit, sum_of}
use Rattle.alp_words.specs.Words.{difference_of, and_of, xor_of, rra_of, rrc_of, swapped, extended, digit_count, decimal_of, quotient, remainder}

-- a number that the width can't hold in two's complement
abbrev pub IsOutside : Width → ℤ → Type 0
IsOutside w z = (z <ℤ (pos 0 -ℤ pos (sign_weight w))) ⊎ (pos (sign_weight w) ≤ℤ z)

-- the sum of the signed values, and the carry
abbrev pub signed_sum : Width → ℕ → ℕ → Bool → ℤ
signed_sum w d s carry = (signed_value w d +ℤ signed_value w s) +ℤ pos (bit carry)

-- the difference of the signed values; a carry of 0 is a borrow of 1
abbrev pub signed_difference : Width → ℕ → ℕ → Bool → ℤ
signed_difference w d s carry = (signed_value w d -ℤ signed_value w s) -ℤ pos (1 - bit carry)

-- the top bit is the sign
abbrev pub TopBitIsSign : Type 0
TopBitIsSign = (w : Width) (x : ℕ) → IsWord x → IsTrue (is_negative w x) ↔ (signed_value w x <ℤ pos 0)

-- ADD, ADDC: result and carry are the whole sum
abbrev pub SumWithCarry : Type 0
SumWithCarry = (w : Width) (d s : ℕ) (carry : Bool) → IsWord d → IsWord s →
    let r = sum_of w d s carry in
    r.0 + modulus w * bit r.1.c ≡ operand w d + operand w s + bit carry

-- V is set where the signed sum is outside the width; else the result's signed value is this sum
abbrev pub OverflowOfSum : Type 0
OverflowOfSum = (w : Width) (d s : ℕ) (carry : Bool) → IsWord d → IsWord s →
    let r = sum_of w d s carry in
    MatchBool r.1.v (IsOutside w (signed_sum w d s carry)) (signed_value w r.0 ≡ signed_sum w d s carry)

-- SUB, SUBC, CMP: C is 1 where nothing is borrowed, and a borrow is worth the modulus
abbrev pub DifferenceWithBorrow : Type 0
DifferenceWithBorrow = (w : Width) (d s : ℕ) (carry : Bool) → IsWord d → IsWord s →
    let r = difference_of w d s carry in
    r.0 + operand w s + (1 - bit carry) ≡ operand w d + modulus w * bit (not r.1.c)

-- V is set where the signed difference is outside the width; else the result's signed value is this difference
abbrev pub OverflowOfDifference : Type 0
OverflowOfDifference = (w : Width) (d s : ℕ) (carry : Bool) → IsWord d → IsWord s →
    let r = difference_of w d s carry in
    MatchBool r.1.v (IsOutside w (signed_difference w d s carry)) (signed_value w r.0 ≡ signed_difference w d s carry)

-- after CMP, C says that s isn't above d, Z that they are equal
abbrev pub UnsignedOrder : Type 0
UnsignedOrder = (w : Width) (d s : ℕ) → IsWord d → IsWord s →
    let f = (difference_of w d s true).1 in
    (IsTrue f.c ↔ (operand w s ≤ operand w d)) × (IsTrue f.z ↔ (operand w d ≡ operand w s))

-- after CMP, N equals V where s isn't above d as signed values
abbrev pub SignedOrder : Type 0
SignedOrder = (w : Width) (d s : ℕ) → IsWord d → IsWord s →
    let f = (difference_of w d s true).1 in
    IsTrue (same f.n f.v) ↔ (signed_value w s ≤ℤ signed_value w d)

-- RRA halves the signed value and rounds down
abbrev pub HalfOfSigned : Type 0
HalfOfSigned = (w : Width) (d : ℕ) → IsWord d →
    let r = rra_of w d in
    signed_value w d ≡ (signed_value w r.0 +ℤ signed_value w r.0) +ℤ pos (bit r.1.c)

-- RRC turns the operand and the carry above it by one bit
abbrev pub RotationThroughCarry : Type 0
RotationThroughCarry = (w : Width) (d : ℕ) (carry : Bool) → IsWord d →
    let r = rrc_of w d carry in
    operand w d + modulus w * bit carry ≡ 2 * r.0 + bit r.1.c

-- SXT keeps the signed value of the low byte
abbrev pub SignExtension : Type 0
SignExtension = (d : ℕ) → IsWord d → signed_value Word (extended d) ≡ signed_value Byte d

-- SWPB twice changes nothing
abbrev pub SwappedTwice : Type 0
SwappedTwice = (d : ℕ) → IsWord d → swapped (swapped d) ≡ d

-- each of the lowest n binary coded digits is below 10
abbrev pub IsDecimal : ℕ → ℕ → Type 0
IsDecimal zero x = Unit {0}
IsDecimal (suc n) x = (x % 16 < 10) × IsDecimal n (x / 16)

-- the number that the lowest n digits stand for
abbrev pub decimal_value : ℕ → ℕ → ℕ
decimal_value zero x = 0
decimal_value (suc n) x = x % 16 + 10 * decimal_value n (x / 16)

-- DADD: on decimal digits, result and carry are the whole decimal sum
abbrev pub DecimalSum : Type 0
DecimalSum = (w : Width) (d s : ℕ) (before : Flags) → IsDecimal (digit_count w) d → IsDecimal (digit_count w) s →
    let n = digit_count w in let r = decimal_of w d s before in
    IsDecimal n r.0 × (decimal_value n r.0 + 10 ^ n * bit r.1.c ≡ decimal_value n d + decimal_value n s + bit before.c)

-- what an operation on bytes gives is a byte, so a register that takes it has a high byte of 0
abbrev pub ByteResults : Type 0
ByteResults = (d s : ℕ) (carry : Bool) (before : Flags) →
    IsByte (sum_of Byte d s carry).0 × IsByte (difference_of Byte d s carry).0 × IsByte (decimal_of Byte d s before).0
    × IsByte (and_of Byte d s).0 × IsByte (xor_of Byte d s).0 × IsByte (rra_of Byte d).0 × IsByte (rrc_of Byte d carry).0

-- division with a remainder below the divisor; by 0 the quotient is 65535 and the remainder the dividend
abbrev pub Division : Type 0
Division = (a b : ℕ) →
    (0 < b → (quotient a b * b + remainder a b ≡ a) × (remainder a b < b))
    × (quotient a 0 ≡ 65535) × (remainder a 0 ≡ a)

-- a difference undoes a sum
abbrev pub SumUndone : Type 0
SumUndone = (a b : ℕ) → IsWord a → IsWord b → word_difference (word_sum a b) b ≡ a
