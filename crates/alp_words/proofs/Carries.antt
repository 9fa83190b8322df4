-- Carries, order after a comparison, shifts, bytes and division.
use Rattle.std.proofs.Common.{◌≡◌, ◌≢◌, ◌⊎◌, ℕ, ◌+◌, ◌-◌, ◌*◌, ◌/◌, ◌%◌, ◌<◌, ◌≤◌, refl, sym, ◌∙◌, arith, Bool, true, false, not, ◌&&◌}
use Rattle.std.proofs.lemmas.Int.{ints}
use Rattle.std.proofs.lemmas.Nat.{div-add-mod'}
use Rattle.std.proofs.lemmas.Bool.Decides.{nat_tests}
use Rattle.std.specs.Prelude.{ℤ, pos, ◌+ℤ◌, ◌≤ℤ◌, IsTrue, ◌↔◌, nat_le, ◌==◌, if◌then◌else◌}
use Rattle.alp_words.specs.declared.Width.TheVariants.{Word, Byte}
use Rattle.alp_words.specs.Words.{is_negative, same, bit, complement, difference_of, rra_of, extended}
use Rattle.alp_words.specs.Laws.{SumWithCarry, DifferenceWithBorrow, UnsignedOrder, SignedOrder, HalfOfSigned, RotationThroughCarry, SignExtension}
use Rattle.alp_words.specs.Laws.{SwappedTwice, ByteResults, Division, SumUndone}
use Rattle.alp_words.proofs.Decimal.{bcd_below}
use Rattle.alp_words.proofs.Signed.{Sign, Plus, Minus, sign_of, bit_below, cut_by_word, cut_by_byte}

word_cut : (t : ℕ) (b : Bool) → nat_le 0x10000 t ≡ b → t < 0x20000 → t % 0x10000 + 0x10000 * bit b ≡ t
word_cut t true e l = let g : 0x10000 ≤ t = grind (arith, nat_tests) in omega arith
word_cut t false e l = let g : t < 0x10000 = grind (arith, nat_tests) in omega arith

byte_cut : (t : ℕ) (b : Bool) → nat_le 0x100 t ≡ b → t < 0x200 → t % 0x100 + 0x100 * bit b ≡ t
byte_cut t true e l = let g : 0x100 ≤ t = grind (arith, nat_tests) in omega arith
byte_cut t false e l = let g : t < 0x100 = grind (arith, nat_tests) in omega arith

pub is_sum_with_carry : SumWithCarry
is_sum_with_carry Word d s carry hd hs = let b = bit_below carry in word_cut (d + s + bit carry) _ refl (omega arith)
is_sum_with_carry Byte d s carry hd hs = let b = bit_below carry in byte_cut (d % 0x100 + s % 0x100 + bit carry) _ refl (omega arith)

-- a carry out is no borrow
no_borrow : (m t r d s b : ℕ) (c : Bool) → r + m * bit c ≡ t → t ≡ d + (m - 1 - s) + b → s < m → b ≤ 1 → r + s + (1 - b) ≡ d + m * bit (not c)
no_borrow m t r d s b true e f h k = omega arith
no_borrow m t r d s b false e f h k = omega arith

pub is_difference_with_borrow : DifferenceWithBorrow
is_difference_with_borrow Word d s carry hd hs =
    let b = bit_below carry in let t = d + complement Word s + bit carry in
    no_borrow 0x10000 t _ d s (bit carry) _ (word_cut t _ refl (omega arith)) refl hs b
is_difference_with_borrow Byte d s carry hd hs =
    let b = bit_below carry in let t = d % 0x100 + complement Byte s + bit carry in
    no_borrow 0x100 t _ (d % 0x100) (s % 0x100) (bit carry) _ (byte_cut t _ refl (omega arith)) refl (omega arith) b

-- what a comparison without borrow in says of d, s below m
compared : (m r d s : ℕ) (c z : Bool) → r + s ≡ d + m * bit (not c) → (r == 0) ≡ z → d < m → s < m → r < m → (IsTrue c ↔ (s ≤ d)) × (IsTrue z ↔ (d ≡ s))
compared m r d s true true e f hd hs hr = let g : r ≡ 0 = grind (arith, nat_tests) in (grind arith, grind arith)
compared m r d s true false e f hd hs hr = let g : r ≢ 0 = grind (arith, nat_tests) in (grind arith, grind arith)
compared m r d s false true e f hd hs hr = let g : r ≡ 0 = grind (arith, nat_tests) in (grind arith, grind arith)
compared m r d s false false e f hd hs hr = let g : r ≢ 0 = grind (arith, nat_tests) in (grind arith, grind arith)

pub is_unsigned_order : UnsignedOrder
is_unsigned_order Word d s hd hs =
    let r = difference_of Word d s true in let e = is_difference_with_borrow Word d s true hd hs in
    compared 0x10000 r.0 d s r.1.c r.1.z (omega arith) refl hd hs (omega arith)
is_unsigned_order Byte d s hd hs =
    let r = difference_of Byte d s true in let e = is_difference_with_borrow Byte d s true hd hs in
    compared 0x100 r.0 (d % 0x100) (s % 0x100) r.1.c r.1.z (omega arith) refl (omega arith) (omega arith) (omega arith)

-- the difference of two signed values with weight h is 0 or more where N equals V
signed_order : (h d s r : ℕ) (nd ns nr : Bool) (zd zs zr : ℤ) → Sign h d nd zd → Sign h s ns zs → Sign h r nr zr → (r ≡ d + (2 * h - 1 - s) + 1)
    ⊎ (r + 2 * h ≡ d + (2 * h - 1 - s) + 1) → IsTrue (same nr (not (same nd ns) && same nr ns)) ↔ (zs ≤ℤ zd)
signed_order h d s r nd ns nr zd zs zr (Plus p) (Plus q) (Plus t) c = grind (arith, ints)
signed_order h d s r nd ns nr zd zs zr (Plus p) (Plus q) (Minus t u) c = grind (arith, ints)
signed_order h d s r nd ns nr zd zs zr (Plus p) (Minus q v) (Plus t) c = grind (arith, ints)
signed_order h d s r nd ns nr zd zs zr (Plus p) (Minus q v) (Minus t u) c = grind (arith, ints)
signed_order h d s r nd ns nr zd zs zr (Minus p a) (Plus q) (Plus t) c = grind (arith, ints)
signed_order h d s r nd ns nr zd zs zr (Minus p a) (Plus q) (Minus t u) c = grind (arith, ints)
signed_order h d s r nd ns nr zd zs zr (Minus p a) (Minus q v) (Plus t) c = grind (arith, ints)
signed_order h d s r nd ns nr zd zs zr (Minus p a) (Minus q v) (Minus t u) c = grind (arith, ints)

pub is_signed_order : SignedOrder
is_signed_order Word d s hd hs =
    let r = difference_of Word d s true in
    signed_order 0x8000 d s r.0 _ _ _ _ _ _ (sign_of Word d hd) (sign_of Word s hs) (sign_of Word r.0 (omega arith))
    (cut_by_word (d + complement Word s + 1) (omega arith))
is_signed_order Byte d s hd hs =
    let r = difference_of Byte d s true in
    signed_order 0x80 (d % 0x100) (s % 0x100) (r.0 % 0x100) _ _ _ _ _ _ (sign_of Byte d hd) (sign_of Byte s hs) (sign_of Byte r.0 (omega arith))
    (cut_by_byte (d % 0x100 + complement Byte s + 1) (omega arith))

-- the last bit, as a carry
last_bit : (x : ℕ) → bit ((x % 2) == 1) ≡ x % 2
last_bit x = grind (arith, nat_tests)

half_of_signed : (h d r b : ℕ) (nd nr : Bool) (zd zr : ℤ) → Sign h d nd zd → Sign h r nr zr → r ≡ d / 2 + h * bit nd → b ≡ d % 2 → zd ≡ (zr +ℤ zr) +ℤ pos b
half_of_signed h d r b nd nr zd zr (Plus p) (Plus q) e f = grind (arith, ints)
half_of_signed h d r b nd nr zd zr (Plus p) (Minus q v) e f = grind (arith, ints)
half_of_signed h d r b nd nr zd zr (Minus p a) (Plus q) e f = grind (arith, ints)
half_of_signed h d r b nd nr zd zr (Minus p a) (Minus q v) e f = grind (arith, ints)

pub is_half_of_signed : HalfOfSigned
is_half_of_signed Word d h =
    let r = rra_of Word d in let b = bit_below (is_negative Word d) in
    half_of_signed 0x8000 d r.0 _ _ _ _ _ (sign_of Word d h) (sign_of Word r.0 (omega arith)) refl (last_bit d)
is_half_of_signed Byte d h =
    let r = rra_of Byte d in let b = bit_below (is_negative Byte d) in let m : d % 0x100 % 2 ≡ d % 2 = omega arith in
    half_of_signed 0x80 (d % 0x100) (r.0 % 0x100) _ _ _ _ _ (sign_of Byte d h) (sign_of Byte r.0 (omega arith)) (omega arith) (last_bit d ∙ sym m)

pub is_rotation_through_carry : RotationThroughCarry
is_rotation_through_carry Word d carry h = let l = last_bit d in omega arith
is_rotation_through_carry Byte d carry h = let l = last_bit d in omega arith

sign_extension : (d low : ℕ) (n : Bool) (z : ℤ) → Sign 0x80 low n z → (nr : Bool) (zr : ℤ) → Sign 0x8000 (low + (if n then 0xFF00 else 0)) nr zr → zr ≡ z
sign_extension d low n z (Plus p) nr zr (Plus q) = omega (arith, ints)
sign_extension d low n z (Plus p) nr zr (Minus q v) = absurd (omega arith)
sign_extension d low n z (Minus p a) nr zr (Plus q) = absurd (omega arith)
sign_extension d low n z (Minus p a) nr zr (Minus q v) = omega (arith, ints)

extension_below : (b : Bool) (x : ℕ) → x < 0x100 → x + (if b then 0xFF00 else 0) < 0x10000
extension_below true x h = omega arith
extension_below false x h = omega arith

pub is_sign_extension : SignExtension
is_sign_extension d h = sign_extension d (d % 0x100) _ _ (sign_of Byte d h) _ _ (sign_of Word (extended d) (extension_below _ (d % 0x100) (omega arith)))

pub is_swapped_twice : SwappedTwice
is_swapped_twice d h = omega arith

division : (a b : ℕ) (t : Bool) → (b == 0) ≡ t → 0 < b → ((if t then 0xFFFF else a / b) * b + (if t then a else a % b) ≡ a) × ((if t then a else a % b) < b)
division a b true e h = absurd (grind (arith, nat_tests))
division a b false e h = (div-add-mod' a b, omega arith)

pub is_division : Division
is_division a b = (division a b (b == 0) refl, refl, refl)

pub is_sum_undone : SumUndone
is_sum_undone a b ha hb = omega arith

half_below : (m x : ℕ) (b : Bool) → x < 2 * m → x / 2 + m * bit b < 2 * m
half_below m x true h = omega arith
half_below m x false h = omega arith

pub is_byte_results : ByteResults
is_byte_results d s carry before = (
  omega arith,
  omega arith,
  bcd_below 2 d s before.c,
  omega arith,
  omega arith,
  half_below 0x80 (d % 0x100) (is_negative Byte d) (omega arith),
  half_below 0x80 (d % 0x100) carry (omega arith),
)
