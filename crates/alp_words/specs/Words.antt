-- Words and bytes as numbers, and what each operation of the CPU gives with its flags (TI SLAU049 and SLAU144, CPU chapter).
use Rattle.std.specs.Prelude.{ℕ, zero, suc, ◌^◌, ◌+◌, ◌-◌, ◌*◌, ◌/◌, ◌%◌, ◌<◌, Bool, true, false, not, ◌&&◌, ◌==◌, nat_le, nat_lt, if◌then◌else◌, bit_and}
use Rattle.std.specs.Prelude.{bit_xor}
use Rattle.std.specs.List.{AllByRecursion}
use Rattle.std.specs.Prelude.{List, [], ◌∷◌, slice_index, ℤ, pos, ◌-ℤ◌}
use Rattle.alp_words.specs.declared.Width.{Width}
use Rattle.alp_words.specs.declared.Width.TheVariants.{Word, Byte}
use Rattle.alp_words.specs.declared.Flags.{Flags}

-- a word is a number below 65536
abbrev pub IsWord : ℕ → Type 0
IsWord n = n < 0x10000

-- words alone
abbrev pub AreWords : List ℕ → Type 0
AreWords ws = AllByRecursion (λ w. w < 0x10000) ws

-- a word at each address
abbrev pub HoldsWords : (ℕ → ℕ) → Type 0
HoldsWords f = (a : ℕ) → f a < 0x10000

-- a byte is a number below 256
abbrev pub IsByte : ℕ → Type 0
IsByte n = n < 0x100

-- the sum of two words, modulo 65536
abbrev pub word_sum : ℕ → ℕ → ℕ
word_sum a b = (a + b) % 0x10000

-- the difference of two words, modulo 65536
abbrev pub word_difference : ℕ → ℕ → ℕ
word_difference a b = (a + (0x10000 - b)) % 0x10000

-- the product of two words, modulo 65536
abbrev pub word_product : ℕ → ℕ → ℕ
word_product a b = (a * b) % 0x10000

-- a word in memory: its low byte, then its high byte
abbrev pub word_bytes : ℕ → List ℕ
word_bytes w = w % 0x100 ∷ w / 0x100 ∷ []

-- the word of a low byte and a high byte
abbrev pub word_of_bytes : List ℕ → ℕ
word_of_bytes bytes = slice_index bytes 0 + 0x100 * slice_index bytes 1

-- what two words are worth, the low one first
abbrev pub two_words : ℕ → ℕ → ℕ
two_words low high = low + 65536 * high

-- the high word of an int that becomes long: its sign
abbrev pub sign_word : ℕ → ℕ
sign_word w = if nat_lt w 32768 then 0 else 65535

-- how many values there are of a width
abbrev pub modulus : Width → ℕ
modulus Word = 0x10000
modulus Byte = 0x100

-- the weight of the top bit
abbrev pub sign_weight : Width → ℕ
sign_weight Word = 0x8000
sign_weight Byte = 0x80

-- the part of a word that an operation of this width sees: all of it, or its low byte
abbrev pub operand : Width → ℕ → ℕ
operand Word x = x
operand Byte x = x % 0x100

-- whether the top bit is set
abbrev pub is_negative : Width → ℕ → Bool
is_negative Word x = nat_le 0x8000 x
is_negative Byte x = nat_le 0x80 (x % 0x100)

-- the number that an operand stands for in two's complement
abbrev pub signed_value : Width → ℕ → ℤ
signed_value w x = if is_negative w x then pos (operand w x) -ℤ pos (modulus w) else pos (operand w x)

-- whether two truth values are equal
abbrev pub same : Bool → Bool → Bool
same true b = b
same false b = not b

-- a flag as a number
abbrev pub bit : Bool → ℕ
bit b = if b then 1 else 0

-- d + s + carry, before it is cut to the width
abbrev pub total : Width → ℕ → ℕ → Bool → ℕ
total w d s carry = operand w d + operand w s + bit carry

-- ADD, ADDC: the sum; C is the carry out, V says that d and s have one sign and the result the other
abbrev pub sum_of : Width → ℕ → ℕ → Bool → ℕ × Flags
sum_of w d s carry =
    let t = total w d s carry in
    let r = t % modulus w in (
      r,
      record {
        n = is_negative w r;
        z = r == 0;
        c = nat_le (modulus w) t;
        v = same (is_negative w d) (is_negative w s) && not (same (is_negative w r) (is_negative w d));
      },
    )

-- not s, within the width
abbrev pub complement : Width → ℕ → ℕ
complement w s = modulus w - 1 - operand w s

-- SUB, SUBC, CMP: d + not s + carry; C is the carry out, V says that d and s differ in sign and the result has the sign of s
abbrev pub difference_of : Width → ℕ → ℕ → Bool → ℕ × Flags
difference_of w d s carry =
    let t = operand w d + complement w s + bit carry in
    let r = t % modulus w in (
      r,
      record {
        n = is_negative w r;
        z = r == 0;
        c = nat_le (modulus w) t;
        v = not (same (is_negative w d) (is_negative w s)) && same (is_negative w r) (is_negative w s);
      },
    )

-- the flags of a result of AND, BIT, XOR and SXT: C is not Z
abbrev pub logic_flags : Width → ℕ → Bool → Flags
logic_flags w r v = record { n = is_negative w r; z = r == 0; c = not (r == 0); v = v }

-- AND, BIT
abbrev pub and_of : Width → ℕ → ℕ → ℕ × Flags
and_of w d s = let r = operand w (bit_and d s) in (r, logic_flags w r false)

-- XOR: V says that both operands are negative
abbrev pub xor_of : Width → ℕ → ℕ → ℕ × Flags
xor_of w d s = let r = operand w (bit_xor d s) in (r, logic_flags w r (is_negative w d && is_negative w s))

-- shifted right by one with this bit at the top; C is the bit that falls out
abbrev pub shifted : Width → ℕ → Bool → ℕ × Flags
shifted w d top =
    let r = operand w d / 2 + sign_weight w * bit top in
    (r, record { n = is_negative w r; z = r == 0; c = (d % 2) == 1; v = false })

-- RRA: the top bit stays
abbrev pub rra_of : Width → ℕ → ℕ × Flags
rra_of w d = shifted w d (is_negative w d)

-- RRC: the carry comes in at the top
abbrev pub rrc_of : Width → ℕ → Bool → ℕ × Flags
rrc_of w d carry = shifted w d carry

-- SWPB: the bytes exchanged
abbrev pub swapped : ℕ → ℕ
swapped d = d % 0x100 * 0x100 + d / 0x100

-- bit 7 into bits 8 to 15
abbrev pub extended : ℕ → ℕ
extended d = d % 0x100 + (if is_negative Byte d then 0xFF00 else 0)

-- SXT
abbrev pub sxt_of : ℕ → ℕ × Flags
sxt_of d = let r = extended d in (r, logic_flags Word r false)

-- one digit of a binary coded decimal sum, and the carry to the next: from 10 on, 6 is added and the carry is 1
abbrev pub decimal_digit : ℕ → ℕ → Bool → ℕ × Bool
decimal_digit a b carry =
    let t = a + b + bit carry in
    if nat_le 10 t then ((t + 6) % 16, true) else (t, false)

-- the sum of so many binary coded digits, from the lowest, and the last carry
abbrev pub bcd_sum : ℕ → ℕ → ℕ → Bool → ℕ × Bool
bcd_sum zero d s carry = (0, carry)
bcd_sum (suc n) d s carry =
    let low = decimal_digit (d % 16) (s % 16) carry in
    let high = bcd_sum n (d / 16) (s / 16) low.1 in
    (low.0 + 16 * high.0, high.1)

-- how many decimal digits there are of a width
abbrev pub digit_count : Width → ℕ
digit_count Word = 4
digit_count Byte = 2

-- DADD: V stays as it was
abbrev pub decimal_of : Width → ℕ → ℕ → Flags → ℕ × Flags
decimal_of w d s before =
    let r = bcd_sum (digit_count w) d s before.c in
    (r.0, record { n = is_negative w r.0; z = r.0 == 0; c = r.1; v = before.v })

-- the unsigned quotient; by 0 it is the greatest word
abbrev pub quotient : ℕ → ℕ → ℕ
quotient a b = if b == 0 then 0xFFFF else a / b

-- the unsigned remainder; by 0 it is the dividend
abbrev pub remainder : ℕ → ℕ → ℕ
remainder a b = if b == 0 then a else a % b

-- shifted right with copies of the top bit
abbrev pub arithmetic_shift : ℕ → ℕ → ℕ
arithmetic_shift a k = if is_negative Word a then 0xFFFF - (0xFFFF - a) / 2 ^ k else a / 2 ^ k

-- the signed value raised by 0x8000, so that order as signed words is order of numbers
abbrev pub biased : ℕ → ℕ
biased a = (a + 0x8000) % 0x10000
