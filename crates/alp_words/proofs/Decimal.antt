-- Binary coded decimal sums.
use Rattle.std.proofs.Common.{◌≡◌, ℕ, ◌+◌, ◌*◌, ◌/◌, ◌%◌, ◌^◌, ◌<◌, arith, Bool, true, false, zero, suc}
use Rattle.std.proofs.Math.Nat.{pow-suc}
use Rattle.std.proofs.lemmas.Bool.Decides.{nat_tests}
use Rattle.alp_words.specs.Words.{bit, decimal_digit, bcd_sum, digit_count}
use Rattle.alp_words.specs.Laws.{IsDecimal, decimal_value, DecimalSum}

record IsDigitSum (a b c : ℕ) (r : ℕ × Bool) : Type 0 where
  below : r.0 < 10
  sum : r.0 + 10 * bit r.1 ≡ a + b + c

digit_sum : (a b : ℕ) (c : Bool) → a < 10 → b < 10 → IsDigitSum a b (bit c) (decimal_digit a b c)
digit_sum a b c ha hb = record { below = grind (arith, nat_tests); sum = grind (arith, nat_tests) }

tens : (n : ℕ) (b : Bool) → 10 ^ suc n * bit b ≡ 10 * (10 ^ n * bit b)
tens n true = omega (arith, pow-suc 10 n)
tens n false = omega arith

-- the lowest digit below the others
low_digit : (l h : ℕ) → l < 10 → (l + 16 * h) % 16 ≡ l
low_digit l h b = omega arith

high_digits : (l h : ℕ) → l < 10 → (l + 16 * h) / 16 ≡ h
high_digits l h b = omega arith

bcd_is_decimal : (n d s : ℕ) (c : Bool) → IsDecimal n d → IsDecimal n s
    → IsDecimal n (bcd_sum n d s c).0 × (decimal_value n (bcd_sum n d s c).0 + 10 ^ n * bit (bcd_sum n d s c).1 ≡ decimal_value n d + decimal_value n s + bit c)
bcd_is_decimal zero d s c hd hs = (tt, omega arith)
bcd_is_decimal (suc n) d s c hd hs =
    let low = digit_sum (d % 16) (s % 16) c hd.0 hs.0 in
    let q = decimal_digit (d % 16) (s % 16) c in
    let high = bcd_is_decimal n (d / 16) (s / 16) q.1 hd.1 hs.1 in
    let more = bcd_sum n (d / 16) (s / 16) q.1 in
    let e = low_digit q.0 more.0 low.below in
    let f = high_digits q.0 more.0 low.below in
    let t = tens n more.1 in
    simp (e, f) ((low.below, high.0), omega arith)

pub is_decimal_sum : DecimalSum
is_decimal_sum w d s before hd hs = bcd_is_decimal (digit_count w) d s before.c hd hs

-- a digit of a decimal sum is below 16
pub digit_below : (a b : ℕ) (c : Bool) → (decimal_digit a b c).0 < 16
digit_below a b c = grind (arith, nat_tests)

-- n digits are below 16 ^ n
pub bcd_below : (n d s : ℕ) (c : Bool) → (bcd_sum n d s c).0 < 16 ^ n
bcd_below zero d s c = omega arith
bcd_below (suc n) d s c =
    let low = digit_below (d % 16) (s % 16) c in
    let high = bcd_below n (d / 16) (s / 16) (decimal_digit (d % 16) (s % 16) c).1 in
    omega (arith, pow-suc 16 n)
