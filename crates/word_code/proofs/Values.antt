-- What the flags of a comparison say.
use Rattle.word_code.proofs.Names.{◌≡◌, ℕ, ◌+◌, ◌-◌, ◌%◌, ◌<◌, ◌≤◌, ◌&&◌, not, refl, sym, ap, ◌∙◌, arith, Bool, true, false, nat_lt, nat_le, le-ltb, lt-ltb}
use Rattle.word_code.proofs.Names.{nat_tests, not-not, Flags, Word, biased, same, is_negative, difference_of, and_of, is_met, Comparison, Equal, Below, Above}
use Rattle.word_code.proofs.Names.{SignedBelow, SignedAbove, CommonBit, compare_words, holding, failing}
use Rattle.word_code.proofs.Registers.{no_borrow, equal_flag}

-- the flags of one word less another
abbrev pub difference_flags : ℕ → ℕ → Flags
difference_flags x y = (difference_of Word x y true).1

-- the flags of a comparison
abbrev pub compared_flags : Comparison → ℕ → ℕ → Flags
compared_flags Equal x y = difference_flags x y
compared_flags Below x y = difference_flags x y
compared_flags Above x y = difference_flags y x
compared_flags SignedBelow x y = difference_flags x y
compared_flags SignedAbove x y = difference_flags y x
compared_flags CommonBit x y = (and_of Word x y).1

not_le : (x y : ℕ) → not (nat_le y x) ≡ nat_lt x y
not_le x y = grind (arith, nat_tests)

-- as unsigned words
below_flags : (x y : ℕ) → x < 0x10000 → y < 0x10000 → not (nat_le 0x10000 (x + (0xFFFF - y) + 1)) ≡ nat_lt x y
below_flags x y h k = ap not (no_borrow x y h k) ∙ not_le x y

high : (x : ℕ) → nat_le 0x8000 x ≡ true → 0x8000 ≤ x
high x e = grind (arith, nat_tests)

low : (x : ℕ) → nat_le 0x8000 x ≡ false → x < 0x8000
low x e = grind (arith, nat_tests)

-- as signed words, by the signs of both and of the difference
by_signs : (a b c : Bool) (x y : ℕ) → x < 0x10000 → y < 0x10000 → nat_le 0x8000 x ≡ a → nat_le 0x8000 y ≡ b
    → nat_le 0x8000 ((x + (0xFFFF - y) + 1) % 0x10000) ≡ c → not (same c (not (same a b) && same c b)) ≡ nat_lt (biased x) (biased y)
by_signs true true true x y h k p q r =
    let l = high x p in let m = high y q in let n = high _ r in sym (lt-ltb (biased x) (biased y) (omega arith))
by_signs true true false x y h k p q r =
    let l = high x p in let m = high y q in let n = low _ r in sym (le-ltb (biased x) (biased y) (omega arith))
by_signs false false true x y h k p q r =
    let l = low x p in let m = low y q in let n = high _ r in sym (lt-ltb (biased x) (biased y) (omega arith))
by_signs false false false x y h k p q r =
    let l = low x p in let m = low y q in let n = low _ r in sym (le-ltb (biased x) (biased y) (omega arith))
by_signs true false true x y h k p q r = let l = high x p in let m = low y q in sym (lt-ltb (biased x) (biased y) (omega arith))
by_signs true false false x y h k p q r = let l = high x p in let m = low y q in sym (lt-ltb (biased x) (biased y) (omega arith))
by_signs false true true x y h k p q r = let l = low x p in let m = high y q in sym (le-ltb (biased x) (biased y) (omega arith))
by_signs false true false x y h k p q r = let l = low x p in let m = high y q in sym (le-ltb (biased x) (biased y) (omega arith))

signed_flags : (x y : ℕ) → x < 0x10000 → y < 0x10000 → (let f = difference_flags x y in not (same f.n f.v) ≡ nat_lt (biased x) (biased y))
signed_flags x y h k =
    by_signs (is_negative Word x) (is_negative Word y) (is_negative Word ((x + (0xFFFF - y) + 1) % 0x10000)) x y h k refl refl refl

-- one condition is met where the comparison holds
pub compare_met : (c : Comparison) (x y : ℕ) → x < 0x10000 → y < 0x10000 → is_met (holding c) (compared_flags c x y) ≡ compare_words c x y
compare_met Equal x y h k = equal_flag x y h k
compare_met Below x y h k = below_flags x y h k
compare_met Above x y h k = below_flags y x k h
compare_met SignedBelow x y h k = signed_flags x y h k
compare_met SignedAbove x y h k = signed_flags y x k h
compare_met CommonBit x y h k = refl

-- and the other where it isn't met
pub failing_met : (c : Comparison) (f : Flags) → is_met (failing c) f ≡ not (is_met (holding c) f)
failing_met Equal f = refl
failing_met Below f = sym (not-not f.c)
failing_met Above f = sym (not-not f.c)
failing_met SignedBelow f = sym (not-not (same f.n f.v))
failing_met SignedAbove f = sym (not-not (same f.n f.v))
failing_met CommonBit f = sym (not-not f.z)
