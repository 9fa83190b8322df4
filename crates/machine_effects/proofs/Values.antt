-- What the operations of the CPU make of words are words.
use Rattle.std.proofs.Common.{◌==◌, ◌<◌, ◌+◌, ◌-◌, ◌*◌, ◌/◌, ◌%◌, arith, ℕ, zero, suc, Bool, true, false, if◌then◌else◌, bit_and, bit_or, bit_xor}
use Rattle.std.proofs.Common.{slice_index, ◌≡◌}
use Rattle.std.proofs.Common.{slice_set}
use Rattle.std.proofs.lemmas.Nat.{and_le_l, or_of_16, xor_of_16}
use Rattle.std.proofs.lemmas.Bool.Decides.{nat_tests}
use Rattle.fram_board.specs.alp_words.declared.Width.{Width}
use Rattle.fram_board.specs.alp_words.declared.Width.TheVariants.{Word, Byte}
use Rattle.fram_board.specs.alp_words.declared.Flags.{Flags}
use Rattle.fram_board.specs.alp_words.Words as words
use Rattle.fram_board.specs.alp_words.Words.{bit, operand, modulus, sign_weight, bcd_sum, decimal_digit, digit_count, word_bytes, word_of_bytes, extended}
use Rattle.fram_board.specs.alp_words.Words.{IsWord, is_negative}
use Rattle.fram_board.specs.alp_words.Words.{swapped}
use Rattle.fram_board.proofs.alp_words.Interface.{digit_below}
use Rattle.fram_board.specs.msp_isa.declared.operands.Konst.{Konst}
use Rattle.fram_board.specs.msp_isa.declared.operands.Konst.TheVariants as konst
use Rattle.fram_board.specs.msp_isa.Constant.{constant_value}
use Rattle.fram_board.specs.msp_isa.declared.instructions.TwoOp.{TwoOp}
use Rattle.fram_board.specs.msp_isa.declared.instructions.TwoOp.TheVariants.{Mov, Add, Addc, Subc, Sub, Cmp, Dadd, Bit, Bic, Bis, Xor, And}
use Rattle.fram_board.specs.msp_step.Registers.{Registers, with_register, kept}
use Rattle.fram_board.specs.msp_step.Effect.{operated, status_with, rotated, shifted, exchanged, sign_extended, word_sum}
use Rattle.fram_board.specs.Bus.{byte_of, with_byte}

pub narrow_small : (w : Width) (v : ℕ) → IsWord v → IsWord (operand w v)
narrow_small Word v h = h
narrow_small Byte v h = omega arith

pub sum_small : (a b : ℕ) → IsWord (word_sum a b)
sum_small a b = omega arith

pub constant_small : (k : Konst) → IsWord (constant_value k)
constant_small konst.Zero = omega arith
constant_small konst.One = omega arith
constant_small konst.Two = omega arith
constant_small konst.Four = omega arith
constant_small konst.Eight = omega arith
constant_small konst.MinusOne = omega arith

-- a bit is below 2
pub bit_low : (b : Bool) → bit b < 2
bit_low true = omega arith
bit_low false = omega arith

four_bits : (c z n v m : ℕ) → c < 2 → z < 2 → n < 2 → v < 2 → m < 0x20 → c + 2 * z + 4 * n + m * 8 + 0x100 * v < 0x10000
four_bits c z n v m a b d e f = omega arith

low_part : (sr : ℕ) → sr / 8 % 0x20 < 0x20
low_part sr = omega arith

pub status_small : (sr : ℕ) (f : Flags) → IsWord (status_with sr f)
status_small sr f = four_bits (bit f.c) (bit f.z) (bit f.n) (bit f.v) (sr / 8 % 0x20) (bit_low f.c) (bit_low f.z) (bit_low f.n) (bit_low f.v) (low_part sr)

modulus_small : (w : Width) (t : ℕ) → IsWord (t % modulus w)
modulus_small Word t = omega arith
modulus_small Byte t = omega arith

-- decimal digits
abbrev sixteens : ℕ → ℕ
sixteens zero = 1
sixteens (suc n) = 16 * sixteens n

both_digits : (l h s : ℕ) → l < 16 → h < s → l + 16 * h < 16 * s
both_digits l h s a b = omega arith

decimal_low : (n d s : ℕ) (c : Bool) → (bcd_sum n d s c).0 < sixteens n
decimal_low zero d s c = omega arith
decimal_low (suc n) d s c =
    let low = decimal_digit (d % 16) (s % 16) c in
    both_digits low.0 (bcd_sum n (d / 16) (s / 16) low.1).0 (sixteens n) (digit_below (d % 16) (s % 16) c) (decimal_low n (d / 16) (s / 16) low.1)

decimal_small : (w : Width) (d s : ℕ) (c : Bool) → IsWord (bcd_sum (digit_count w) d s c).0
decimal_small Word d s c = decimal_low 4 d s c
decimal_small Byte d s c = let h : (bcd_sum 2 d s c).0 < 256 = decimal_low 2 d s c in omega arith

or_small : (a b : ℕ) → IsWord a → IsWord b → IsWord (bit_or a b)
or_small a b h k = or_of_16 a b h k

xor_small : (a b : ℕ) → IsWord a → IsWord b → IsWord (bit_xor a b)
xor_small a b h k = xor_of_16 a b h k

and_small : (a b : ℕ) → IsWord a → IsWord (bit_and a b)
and_small a b h = let l = and_le_l a b in omega arith

less_small : (a b : ℕ) → IsWord a → IsWord (a - b)
less_small a b h = omega arith

pub two_small : (op : TwoOp) (w : Width) (d s : ℕ) (f : Flags) → IsWord d → IsWord s → IsWord (operated op w d s f).value
two_small Mov w d s f h k = k
two_small Bic w d s f h k = less_small d (bit_and d s) h
two_small Bis w d s f h k = or_small d s h k
two_small Add w d s f h k = modulus_small w _
two_small Addc w d s f h k = modulus_small w _
two_small Subc w d s f h k = modulus_small w _
two_small Sub w d s f h k = modulus_small w _
two_small Cmp w d s f h k = modulus_small w _
two_small Dadd w d s f h k = decimal_small w d s f.c
two_small Bit w d s f h k = narrow_small w (bit_and d s) (and_small d s h)
two_small And w d s f h k = narrow_small w (bit_and d s) (and_small d s h)
two_small Xor w d s f h k = narrow_small w (bit_xor d s) (xor_small d s h k)

half_small : (v t : ℕ) → IsWord v → t < 2 → IsWord (v / 2 + 0x8000 * t)
half_small v t h k = omega arith

half_byte : (v t : ℕ) → t < 2 → IsWord (v % 0x100 / 2 + 0x80 * t)
half_byte v t k = omega arith

shift_right : (w : Width) (v : ℕ) (top : Bool) → IsWord v → IsWord (words.shifted w v top).0
shift_right Word v top h = half_small v (bit top) h (bit_low top)
shift_right Byte v top h = half_byte v (bit top) (bit_low top)

pub rotate_small : (w : Width) (v : ℕ) (f : Flags) → IsWord v → IsWord (rotated w v f).value
rotate_small w v f h = shift_right w v f.c h

pub shift_small : (w : Width) (v : ℕ) (f : Flags) → IsWord v → IsWord (shifted w v f).value
shift_small w v f h = shift_right w v (is_negative w v) h

pub exchange_small : (w : Width) (v : ℕ) (f : Flags) → IsWord v → IsWord (exchanged w v f).value
exchange_small w v f h = omega arith

extend_on : (b : Bool) (v : ℕ) → IsWord (v % 0x100 + (if b then 0xFF00 else 0))
extend_on true v = omega arith
extend_on false v = omega arith

pub extend_small : (w : Width) (v : ℕ) (f : Flags) → IsWord v → IsWord (sign_extended w v f).value
extend_small w v f h = extend_on (is_negative Byte v) v

-- bytes of words
byte_at : (w k : ℕ) → IsWord w → IsWord (slice_index (word_bytes w) k)
byte_at w zero h = omega arith
byte_at w (suc zero) h = omega arith
byte_at w (suc (suc k)) h = omega arith

pub byte_small : (w a : ℕ) → IsWord w → IsWord (byte_of w a)
byte_small w a h = byte_at w (a % 2) h

bytes_at : (w k v : ℕ) → IsWord w → IsWord (word_of_bytes (slice_set (word_bytes w) k (v % 0x100)))
bytes_at w zero v h = let e : v % 0x100 + 0x100 * (w / 0x100) < 0x10000 = omega arith in e
bytes_at w (suc zero) v h = let e : w % 0x100 + 0x100 * (v % 0x100) < 0x10000 = omega arith in e
bytes_at w (suc (suc k)) v h = let e : w % 0x100 + 0x100 * (w / 0x100) < 0x10000 = omega arith in e

pub bytes_small : (w a v : ℕ) → IsWord w → IsWord (with_byte w a v)
bytes_small w a v h = bytes_at w (a % 2) v h

-- registers
abbrev pub AreSmall : Registers → Type 0
AreSmall r = (n : ℕ) → IsWord (r n)

kept_on : (a b c d : Bool) (v : ℕ) → IsWord v → IsWord (if a then v / 2 * 2 else if b then v / 2 * 2 else if c then v % 0x200 else if d then 0 else v)
kept_on true b c d v h = omega arith
kept_on false true c d v h = omega arith
kept_on false false true d v h = omega arith
kept_on false false false true v h = omega arith
kept_on false false false false v h = h

pub kept_small : (n v : ℕ) → IsWord v → IsWord (kept n v)
kept_small n v h = kept_on (n == 0) (n == 1) (n == 2) (n == 3) v h

either_small : (b : Bool) (x y : ℕ) → IsWord x → IsWord y → IsWord (if b then x else y)
either_small true x y h k = h
either_small false x y h k = k

pub with_small : (r : Registers) (n v : ℕ) → n < 16 → IsWord v → AreSmall r → AreSmall (with_register r n v)
with_small r n v low h k m = either_small (m == n) (kept n v) (r m) (kept_small n v h) (k m)

-- a word that isn't zero, compared with zero, sets no zero flag
pub zero_flag : (n : ℕ) → n < 0x10000 → 0 < n → ((n + 65535 + 1) % 65536 == 0) ≡ false
zero_flag n l h = grind (arith, nat_tests)
