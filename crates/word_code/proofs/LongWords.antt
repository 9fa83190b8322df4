-- Arithmetic of longs by their words: what the low words carry goes into the high ones.
use Rattle.word_code.proofs.Names.{◌≡◌, ℕ, zero, suc, ◌+◌, ◌-◌, ◌*◌, ◌/◌, ◌%◌, ◌^◌, ◌<◌, ◌≤◌, ◌==◌, Bool, true, false, not, nat_le, nat_lt, if◌then◌else◌, refl}
use Rattle.word_code.proofs.Names.{sym, ap, ap₂, ◌∙◌, arith, le-leb, ltb-true, eqb-true, bit, bit_and, nat_tests, and_le_r, mul-mod_first, pow-add, Flags, Word}
use Rattle.word_code.proofs.Names.{and_mask, operated, flags_after, PlainOperation, Add, Subtract, And, plain_instruction}
use Rattle.std.specs.Prelude.{bit_or, bit_xor}
use Rattle.std.specs.Int.Bits.{xor_add_and}
use Rattle.std.proofs.lemmas.Bool.{leb-true}
use Rattle.std.proofs.Math.Nat.{div-div-eq-div-mul}
use Rattle.std.proofs.lemmas.Nat.{and_shr, and_mod, or_shr, or_mod, xor_shr, xor_mod}
use Rattle.array_versions.specs.declared.operations.PlainOperation.TheVariants.{Xor, Or}
pub use Rattle.array_versions.specs.alp_words.Words.{swapped as swap}
use Rattle.array_versions.specs.Operations.{two_words, plain_long, sign_word, all_bits}
use Rattle.word_code.specs.Code.{high_instruction}

-- a long by its words
pub record Pair : Type 0 where
  pub low : ℕ
  pub high : ℕ

abbrev pub pair : ℕ → ℕ → Pair
pair low high = record { low = low; high = high }

-- the long
abbrev pub worth : Pair → ℕ
worth a = two_words a.low a.high

-- a long's words
abbrev pub pair_of : ℕ → Pair
pair_of n = record { low = n % 0x10000; high = n / 0x10000 }

-- both are words
pub record AreSmall (a : Pair) : Type 0 where
  pub low : a.low < 0x10000
  pub high : a.high < 0x10000

pub worth_small : (a : Pair) → AreSmall a → worth a < 0x100000000
worth_small a s = omega (arith, s.low, s.high)

pub low_of : (a : Pair) → AreSmall a → worth a % 0x10000 ≡ a.low
low_of a s = let l = s.low in omega arith

pub high_of : (a : Pair) → AreSmall a → worth a / 0x10000 ≡ a.high
high_of a s = let l = s.low in omega arith

-- ---- tests of numbers

not_at_most : (m n : ℕ) → n < m → nat_le m n ≡ false
not_at_most m n h = grind (arith, nat_tests)

more_than : (m n : ℕ) → nat_le m n ≡ false → n < m
more_than m n e = grind (arith, nat_tests)

is_not_below : (m n : ℕ) → nat_lt m n ≡ false → n ≤ m
is_not_below m n e = grind (arith, nat_tests)

-- ---- sums and differences

-- the high word of a sum, with what the low words carry
sum_high : (c : Bool) (al ah bl bh : ℕ) → nat_le 0x10000 (al + bl + 0) ≡ c → al < 0x10000 → ah < 0x10000 → bl < 0x10000 → bh < 0x10000
    → (ah + bh + bit c) % 0x10000 ≡ (two_words al ah + two_words bl bh) % 2 ^ 32 / 0x10000
sum_high true al ah bl bh e h i j k = let l = leb-true 0x10000 (al + bl + 0) e in omega arith
sum_high false al ah bl bh e h i j k = let l = more_than 0x10000 (al + bl + 0) e in omega arith

-- and of a difference
difference_high : (c : Bool) (al ah bl bh : ℕ) → nat_le 0x10000 (al + (0xFFFF - bl) + 1) ≡ c → al < 0x10000 → ah < 0x10000 → bl < 0x10000 → bh < 0x10000
    → (ah + (0xFFFF - bh) + bit c) % 0x10000 ≡ (two_words al ah + (2 ^ 32 - two_words bl bh)) % 2 ^ 32 / 0x10000
difference_high true al ah bl bh e h i j k = let l = leb-true 0x10000 (al + (0xFFFF - bl) + 1) e in omega arith
difference_high false al ah bl bh e h i j k = let l = more_than 0x10000 (al + (0xFFFF - bl) + 1) e in omega arith

-- the words of what an operation makes of two longs: first the low ones' instruction, then the high ones'
pub record AreMade (o : PlainOperation) (a b : Pair) (f : Flags) : Type 0 where
  pub low : (operated (plain_instruction o) Word a.low b.low f).value ≡ plain_long o (worth a) (worth b) % 0x10000
  pub high : (let first = operated (plain_instruction o) Word a.low b.low f in
      (operated (high_instruction o) Word a.high b.high (flags_after first.flags f)).value ≡ plain_long o (worth a) (worth b) / 0x10000)

pub are_made : (o : PlainOperation) (a b : Pair) (f : Flags) → AreSmall a → AreSmall b → AreMade o a b f
are_made Add a b f s t =
    record {
      low = let l = s.low in let m = t.low in omega arith;
      high = sum_high (nat_le 0x10000 (a.low + b.low + 0)) a.low a.high b.low b.high refl s.low s.high t.low t.high;
    }
are_made Subtract a b f s t =
    record {
      low = let l = s.low in let m = t.low in let n = t.high in omega arith;
      high = difference_high (nat_le 0x10000 (a.low + (0xFFFF - b.low) + 1)) a.low a.high b.low b.high refl s.low s.high t.low t.high;
    }
are_made And a b f s t =
    record {
      low = sym (and_mod (worth a) (worth b) 16 ∙ ap₂ bit_and (low_of a s) (low_of b t));
      high = sym (and_shr (worth a) (worth b) 16 ∙ ap₂ bit_and (high_of a s) (high_of b t));
    }
are_made Xor a b f s t =
    record {
      low = sym (xor_mod (worth a) (worth b) 16 ∙ ap₂ bit_xor (low_of a s) (low_of b t));
      high = sym (xor_shr (worth a) (worth b) 16 ∙ ap₂ bit_xor (high_of a s) (high_of b t));
    }
are_made Or a b f s t =
    record {
      low = sym (or_mod (worth a) (worth b) 16 ∙ ap₂ bit_or (low_of a s) (low_of b t));
      high = sym (or_shr (worth a) (worth b) 16 ∙ ap₂ bit_or (high_of a s) (high_of b t));
    }

-- ---- comparisons

-- the high words' difference borrows where the long is below the other
no_borrow_by : (c d : Bool) (al ah bl bh : ℕ) → nat_le 0x10000 (al + (0xFFFF - bl) + 1) ≡ c → nat_lt (two_words al ah) (two_words bl bh) ≡ d
    → al < 0x10000 → ah < 0x10000 → bl < 0x10000 → bh < 0x10000 → nat_le 0x10000 (ah + (0xFFFF - bh) + bit c) ≡ not d
no_borrow_by true true al ah bl bh e f h i j k =
    let l = leb-true 0x10000 (al + (0xFFFF - bl) + 1) e in
    let m = ltb-true (two_words al ah) (two_words bl bh) f in
    not_at_most 0x10000 (ah + (0xFFFF - bh) + 1) (omega arith)
no_borrow_by true false al ah bl bh e f h i j k =
    let l = leb-true 0x10000 (al + (0xFFFF - bl) + 1) e in
    let m = is_not_below (two_words al ah) (two_words bl bh) f in
    le-leb 0x10000 (ah + (0xFFFF - bh) + 1) (omega arith)
no_borrow_by false true al ah bl bh e f h i j k =
    let l = more_than 0x10000 (al + (0xFFFF - bl) + 1) e in
    let m = ltb-true (two_words al ah) (two_words bl bh) f in
    not_at_most 0x10000 (ah + (0xFFFF - bh) + 0) (omega arith)
no_borrow_by false false al ah bl bh e f h i j k =
    let l = more_than 0x10000 (al + (0xFFFF - bl) + 1) e in
    let m = is_not_below (two_words al ah) (two_words bl bh) f in
    le-leb 0x10000 (ah + (0xFFFF - bh) + 0) (omega arith)

pub below_carry : (a b : Pair) → AreSmall a → AreSmall b
    → nat_le 0x10000 (a.high + (0xFFFF - b.high) + bit (nat_le 0x10000 (a.low + (0xFFFF - b.low) + 1))) ≡ not (nat_lt (worth a) (worth b))
below_carry a b s t =
    no_borrow_by (nat_le 0x10000 (a.low + (0xFFFF - b.low) + 1)) (nat_lt (worth a) (worth b)) a.low a.high b.low b.high refl refl s.low s.high t.low t.high

-- less 1 it doesn't where it is above the other
no_borrow_less : (c d : Bool) (al ah bl bh : ℕ) → nat_le 0x10000 (al + (0xFFFF - bl) + 0) ≡ c → nat_lt (two_words bl bh) (two_words al ah) ≡ d
    → al < 0x10000 → ah < 0x10000 → bl < 0x10000 → bh < 0x10000 → nat_le 0x10000 (ah + (0xFFFF - bh) + bit c) ≡ d
no_borrow_less true true al ah bl bh e f h i j k =
    let l = leb-true 0x10000 (al + (0xFFFF - bl) + 0) e in
    let m = ltb-true (two_words bl bh) (two_words al ah) f in
    le-leb 0x10000 (ah + (0xFFFF - bh) + 1) (omega arith)
no_borrow_less true false al ah bl bh e f h i j k =
    let l = leb-true 0x10000 (al + (0xFFFF - bl) + 0) e in
    let m = is_not_below (two_words bl bh) (two_words al ah) f in
    not_at_most 0x10000 (ah + (0xFFFF - bh) + 1) (omega arith)
no_borrow_less false true al ah bl bh e f h i j k =
    let l = more_than 0x10000 (al + (0xFFFF - bl) + 0) e in
    let m = ltb-true (two_words bl bh) (two_words al ah) f in
    le-leb 0x10000 (ah + (0xFFFF - bh) + 0) (omega arith)
no_borrow_less false false al ah bl bh e f h i j k =
    let l = more_than 0x10000 (al + (0xFFFF - bl) + 0) e in
    let m = is_not_below (two_words bl bh) (two_words al ah) f in
    not_at_most 0x10000 (ah + (0xFFFF - bh) + 0) (omega arith)

pub above_carry : (a b : Pair) → AreSmall a → AreSmall b
    → nat_le 0x10000 (a.high + (0xFFFF - b.high) + bit (nat_le 0x10000 (a.low + (0xFFFF - b.low) + 0))) ≡ nat_lt (worth b) (worth a)
above_carry a b s t =
    no_borrow_less (nat_le 0x10000 (a.low + (0xFFFF - b.low) + 0)) (nat_lt (worth b) (worth a)) a.low a.high b.low b.high refl refl s.low s.high t.low t.high

-- a register less itself and the borrow
pub mask_value : (c : Bool) (x : ℕ) → x < 0x10000 → (x + (0xFFFF - x) + bit c) % 0x10000 ≡ all_bits (not c)
mask_value true x h = omega arith
mask_value false x h = omega arith

turn_value : (c : Bool) → bit_xor (all_bits (not c)) 0xFFFF ≡ all_bits c
turn_value true = refl
turn_value false = refl

-- with its bits turned
pub turned_value : (c : Bool) (x : ℕ) → x < 0x10000 → bit_xor ((x + (0xFFFF - x) + bit c) % 0x10000) 0xFFFF ≡ all_bits c
turned_value c x h = ap (λ v. bit_xor v 0xFFFF) (mask_value c x h) ∙ turn_value c

-- no bit of 0 is 1
pub no_carry : (v : ℕ) → not (bit_and v 0 == 0) ≡ false
no_carry v = let e : bit_and v 0 ≡ 0 = let l = and_le_r v 0 in omega arith in ap (λ n. not (n == 0)) e

-- the carry of a word's double is its sign
sign_by : (c : Bool) (y : ℕ) → nat_le 0x10000 (y + y + 0) ≡ c → y < 0x10000 → all_bits c ≡ sign_word y
sign_by true y e h =
    let l = leb-true 0x10000 (y + y + 0) e in
    let f : nat_lt y 32768 ≡ false = grind (arith, nat_tests) in sym (ap (λ b. if b then 0 else 65535) f)
sign_by false y e h =
    let l = more_than 0x10000 (y + y + 0) e in
    let f : nat_lt y 32768 ≡ true = grind (arith, nat_tests) in sym (ap (λ b. if b then 0 else 65535) f)

pub sign_value : (y : ℕ) → y < 0x10000
    → (let x = (y + y + 0) % 0x10000 in bit_xor ((x + (0xFFFF - x) + bit (nat_le 0x10000 (y + y + 0))) % 0x10000) 0xFFFF ≡ sign_word y)
sign_value y h =
    let c = nat_le 0x10000 (y + y + 0) in turned_value c ((y + y + 0) % 0x10000) (omega arith) ∙ sign_by c y refl h

-- ---- shifts

abbrev pub times : ℕ → (ℕ → ℕ) → ℕ → ℕ
times zero g n = n
times (suc k) g n = times k g (g n)

abbrev pub long_twice : ℕ → ℕ
long_twice n = (n + n) % 0x100000000

abbrev pub half : ℕ → ℕ
half n = n / 2

power : (k : ℕ) → 2 ^ suc k ≡ 2 * 2 ^ k
power k = grind arith

pub twice_times : (k n : ℕ) → n < 0x100000000 → times k long_twice n ≡ (n * 2 ^ k) % 0x100000000
twice_times zero n h = omega arith
twice_times (suc k) n h =
    let p = 2 ^ k in
    let e : (n + n) * p ≡ n * (2 * p) = omega arith in
    twice_times k (long_twice n) (omega arith) ∙ mul-mod_first (n + n) p 0x100000000 ∙ ap (λ m. m % 0x100000000) (e ∙ ap (λ m. n * m) (sym (power k)))

pub half_times : (k n : ℕ) → times k half n ≡ n / 2 ^ k
half_times zero n = omega arith
half_times (suc k) n = half_times k (n / 2) ∙ div-div-eq-div-mul n 2 (2 ^ k) ∙ ap (λ m. n / m) (sym (power k))

-- eight places more
pub raised_times : (j n : ℕ) → times j long_twice ((n * 256) % 0x100000000) ≡ (n * 2 ^ (8 + j)) % 0x100000000
raised_times j n =
    let p = 2 ^ j in
    let e : n * 256 * p ≡ n * (256 * p) = omega arith in
    twice_times j ((n * 256) % 0x100000000) (omega arith) ∙ mul-mod_first (n * 256) p 0x100000000
    ∙ ap (λ m. m % 0x100000000) (e ∙ ap (λ m. n * m) (sym (pow-add 2 8 j)))

pub lowered_times : (j n : ℕ) → times j half (n / 256) ≡ n / 2 ^ (8 + j)
lowered_times j n = half_times j (n / 256) ∙ div-div-eq-div-mul n 256 (2 ^ j) ∙ ap (λ m. n / m) (sym (pow-add 2 8 j))

-- the words of a long's double
pub twice_low : (n : ℕ) → (n % 0x10000 + n % 0x10000 + 0) % 0x10000 ≡ long_twice n % 0x10000
twice_low n = omega arith

twice_by : (c : Bool) (n : ℕ) → nat_le 0x10000 (n % 0x10000 + n % 0x10000 + 0) ≡ c
    → (n / 0x10000 + n / 0x10000 + bit c) % 0x10000 ≡ long_twice n / 0x10000
twice_by true n e = let l = leb-true 0x10000 (n % 0x10000 + n % 0x10000 + 0) e in omega arith
twice_by false n e = let l = more_than 0x10000 (n % 0x10000 + n % 0x10000 + 0) e in omega arith

pub twice_high : (n : ℕ) → (n / 0x10000 + n / 0x10000 + bit (nat_le 0x10000 (n % 0x10000 + n % 0x10000 + 0))) % 0x10000 ≡ long_twice n / 0x10000
twice_high n = twice_by (nat_le 0x10000 (n % 0x10000 + n % 0x10000 + 0)) n refl

-- and of its half: the lowest bit of the high word comes into the low one
half_by : (b : Bool) (n : ℕ) → (n / 0x10000 % 2 == 1) ≡ b → n % 0x10000 / 2 + 0x8000 * bit b ≡ half n % 0x10000
half_by true n e = let one = eqb-true (n / 0x10000 % 2) 1 e in omega arith
half_by false n e = let none : n / 0x10000 % 2 ≡ 0 = grind (arith, nat_tests) in omega arith

pub half_low : (n : ℕ) → n % 0x10000 / 2 + 0x8000 * bit (n / 0x10000 % 2 == 1) ≡ half n % 0x10000
half_low n = half_by (n / 0x10000 % 2 == 1) n refl

-- the high word's own half, where nothing comes in at its top
pub half_high : (n : ℕ) → n / 0x10000 / 2 + 0x8000 * 0 ≡ half n / 0x10000
half_high n = omega arith

-- its top bit is 0
pub top_is_zero : (n : ℕ) → n < 0x80000000 → nat_le 0x8000 (n / 0x10000) ≡ false
top_is_zero n h = not_at_most 0x8000 (n / 0x10000) (omega arith)

-- eight places to the left
pub up_low : (n : ℕ) → (n % 0x10000 * 256) % 0x10000 ≡ (n * 256) % 0x100000000 % 0x10000
up_low n = omega arith

pub up_high : (n : ℕ) → (let l = n % 0x10000 in let h = n / 0x10000 in
    (((h * 256) % 0x10000 + swap l + 0) % 0x10000 + (0xFFFF - (l * 256) % 0x10000) + 1) % 0x10000 ≡ (n * 256) % 0x100000000 / 0x10000)
up_high n = omega arith

-- and to the right
pub down_low : (n : ℕ) → n < 0x100000000 → (let l = n % 0x10000 in let h = n / 0x10000 in
    ((l / 256 + swap h + 0) % 0x10000 + (0xFFFF - h / 256) + 1) % 0x10000 ≡ n / 256 % 0x10000)
down_low n h = omega arith

pub down_high : (n : ℕ) → n / 0x10000 / 256 ≡ n / 256 / 0x10000
down_high n = omega arith

-- ---- by 16 places and more

-- to the left: the low word, shifted by those that are left, becomes the high one
pub far_left_high : (l h j : ℕ) → l < 0x10000 → (two_words l h * 2 ^ (16 + j)) % 2 ^ 32 / 0x10000 ≡ (l * 2 ^ j) % 0x10000
far_left_high l h j s =
    let p = 2 ^ j in
    let lp = l * p in
    let hp = h * p in
    let e : two_words l h * (65536 * p) ≡ 65536 * lp + 0x100000000 * hp = omega arith in
    ap (λ m. m % 0x100000000 / 0x10000) (ap (λ m. two_words l h * m) (pow-add 2 16 j) ∙ e) ∙ omega arith

pub far_left_low : (l h j : ℕ) → (two_words l h * 2 ^ (16 + j)) % 2 ^ 32 % 0x10000 ≡ 0
far_left_low l h j =
    let p = 2 ^ j in
    let lp = l * p in
    let hp = h * p in
    let e : two_words l h * (65536 * p) ≡ 65536 * lp + 0x100000000 * hp = omega arith in
    ap (λ m. m % 0x100000000 % 0x10000) (ap (λ m. two_words l h * m) (pow-add 2 16 j) ∙ e) ∙ omega arith

-- to the right: the high word, shifted so, becomes the low one
pub far_right : (l h j : ℕ) → l < 0x10000 → two_words l h / 2 ^ (16 + j) ≡ h / 2 ^ j
far_right l h j s =
    let e : two_words l h / 65536 ≡ h = omega arith in
    ap (λ m. two_words l h / m) (pow-add 2 16 j) ∙ sym (div-div-eq-div-mul (two_words l h) 65536 (2 ^ j)) ∙ ap (λ m. m / 2 ^ j) e

-- ---- each bit turned

pub sign_small : (y : ℕ) → sign_word y < 0x10000
sign_small y = by (nat_lt y 32768)
  where
    by : (b : Bool) → (if b then 0 else 65535) < 0x10000
    by true = omega arith
    by false = omega arith

bits_turned : (v : ℕ) → v < 0x10000 → bit_xor v 0xFFFF ≡ 0xFFFF - v
bits_turned v h =
    let all = xor_add_and v 0xFFFF in
    let mask : bit_and v 0xFFFF ≡ v % 2 ^ 16 = and_mask v 16 in
    omega (arith, all, mask)

pub turned_low : (n : ℕ) → n < 0x100000000 → bit_xor (n % 0x10000) 0xFFFF ≡ (4294967295 - n) % 0x10000
turned_low n h = bits_turned (n % 0x10000) (omega arith) ∙ omega arith

pub turned_high : (n : ℕ) → n < 0x100000000 → bit_xor (n / 0x10000) 0xFFFF ≡ (4294967295 - n) / 0x10000
turned_high n h = bits_turned (n / 0x10000) (omega arith) ∙ omega arith
