-- Words that are printed in hexadecimal digits read back, and leading zeros change nothing.
use Rattle.std.proofs.Common.{◌≡◌, ◌<◌, ◌^◌, ℕ, ◌+◌, ◌*◌, ◌/◌, ◌%◌, List, [], ◌∷◌, arith, refl, nat_lt, Ok, true, IsTrue, subst}
use Rattle.std.specs.Char.{digit_char}
use Rattle.std.proofs.lemmas.Bool.Decides.{nat_tests}
use Rattle.alp_text.specs.Numbers.{digit_of, is_numeral, numeral, hex4}

digit_back : (d : ℕ) → d < 16 → digit_of (digit_char d) ≡ d
unfolding digit_of
digit_back d h = grind (arith, nat_tests)

-- the value of four digits
four_digits : (a b c d : ℕ) → a < 16 → b < 16 → c < 16 → d < 16
    → numeral 16 (digit_char a ∷ digit_char b ∷ digit_char c ∷ digit_char d ∷ []) ≡ Ok ((((0 * 16 + a) * 16 + b) * 16 + c) * 16 + d)
four_digits a b c d ha hb hc hd =
    let small : nat_lt ((((0 * 16 + a) * 16 + b) * 16 + c) * 16 + d) (2 ^ 64) ≡ true = grind (arith, nat_tests) in
    let la : nat_lt a 16 ≡ true = grind (arith, nat_tests) in
    let lb : nat_lt b 16 ≡ true = grind (arith, nat_tests) in
    let lc : nat_lt c 16 ≡ true = grind (arith, nat_tests) in
    let ld : nat_lt d 16 ≡ true = grind (arith, nat_tests) in
    rw (digit_back a ha, digit_back b hb, digit_back c hc, digit_back d hd, la, lb, lc, ld, small) refl

pub numeral-hex4 : (w : ℕ) → w < 2 ^ 16 → numeral 16 (hex4 w) ≡ Ok w
unfolding hex4
numeral-hex4 w h =
    let value : (((0 * 16 + w / 4096) * 16 + w / 256 % 16) * 16 + w / 16 % 16) * 16 + w % 16 ≡ w = omega arith in
    subst (λ n. numeral 16 (hex4 w) ≡ Ok n) value
    (four_digits (w / 4096) (w / 256 % 16) (w / 16 % 16) (w % 16) (omega arith) (omega arith) (omega arith) (omega arith))

-- a zero in front keeps a numeral of a base above 0
pub numeral-zero : (base : ℕ) (ds : List ℕ) → 0 < base → IsTrue (is_numeral base ds) → numeral base (48 ∷ ds) ≡ numeral base ds
unfolding digit_of
numeral-zero base ds h k =
    let is : is_numeral base ds ≡ true = k in
    grind (arith, nat_tests)
