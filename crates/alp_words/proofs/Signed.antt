-- Signs, carries and overflow of sums and differences.
use Rattle.std.proofs.Common.{◌≡◌, ◌⊎◌, inl, inr, ℕ, ◌+◌, ◌-◌, ◌*◌, ◌%◌, ◌<◌, ◌≤◌, refl, arith, Bool, true, false, not, ◌&&◌}
use Rattle.std.proofs.lemmas.Int.{ints}
use Rattle.std.proofs.lemmas.Bool.{cases_lt}
use Rattle.std.proofs.lemmas.Bool.Decides.{nat_tests}
use Rattle.std.specs.Prelude.{ℤ, pos, ◌+ℤ◌, ◌-ℤ◌, ◌≤ℤ◌, ◌<ℤ◌, IsTrue, ◌↔◌, MatchBool, nat_le, if◌then◌else◌}
use Rattle.alp_words.specs.declared.Width.{Width}
use Rattle.alp_words.specs.declared.Width.TheVariants.{Word, Byte}
use Rattle.alp_words.specs.Words.{IsWord, sign_weight, operand, is_negative, signed_value, same, bit, complement, sum_of, difference_of}
use Rattle.alp_words.specs.Laws.{TopBitIsSign, OverflowOfSum, OverflowOfDifference}

-- the sign and the signed value of x, where the top bit has weight h
pub data Sign (h x : ℕ) : Bool → ℤ → Type 0 where
  Plus : x < h → Sign h x false (pos x)
  Minus : h ≤ x → x < 2 * h → Sign h x true (pos x -ℤ pos (2 * h))

-- z is outside the range of two's complement
abbrev pub Outside : ℕ → ℤ → Type 0
Outside h z = (z <ℤ (pos 0 -ℤ pos h)) ⊎ (pos h ≤ℤ z)

-- r is t, cut at most once by 2 * h
abbrev pub Cut : ℕ → ℕ → ℕ → Type 0
Cut h t r = (r ≡ t) ⊎ (r + 2 * h ≡ t)

sign_by_test : (h x : ℕ) (b : Bool) → nat_le h x ≡ b → x < 2 * h → Sign h x b (if b then (pos x -ℤ pos (2 * h)) else pos x)
sign_by_test h x true e l = Minus (grind (arith, nat_tests)) l
sign_by_test h x false e l = Plus (grind (arith, nat_tests))

pub sign_of : (w : Width) (x : ℕ) → IsWord x → Sign (sign_weight w) (operand w x) (is_negative w x) (signed_value w x)
sign_of Word x h = sign_by_test 0x8000 x (nat_le 0x8000 x) refl h
sign_of Byte x h = sign_by_test 0x80 (x % 0x100) (nat_le 0x80 (x % 0x100)) refl (omega arith)

-- a bit is at most 1
pub bit_below : (b : Bool) → bit b ≤ 1
bit_below b = grind arith

overflow_of_sum : (h d s r b : ℕ) (nd ns nr : Bool) (zd zs zr : ℤ) → Sign h d nd zd → Sign h s ns zs → Sign h r nr zr → b ≤ 1 → Cut h (d + s + b) r
    → MatchBool (same nd ns && not (same nr nd)) (Outside h ((zd +ℤ zs) +ℤ pos b)) (zr ≡ (zd +ℤ zs) +ℤ pos b)
overflow_of_sum h d s r b nd ns nr zd zs zr (Plus p) (Plus q) (Plus t) l c = grind (arith, ints)
overflow_of_sum h d s r b nd ns nr zd zs zr (Plus p) (Plus q) (Minus t u) l c = inr (grind (arith, ints))
overflow_of_sum h d s r b nd ns nr zd zs zr (Plus p) (Minus q v) (Plus t) l c = grind (arith, ints)
overflow_of_sum h d s r b nd ns nr zd zs zr (Plus p) (Minus q v) (Minus t u) l c = grind (arith, ints)
overflow_of_sum h d s r b nd ns nr zd zs zr (Minus p a) (Plus q) (Plus t) l c = grind (arith, ints)
overflow_of_sum h d s r b nd ns nr zd zs zr (Minus p a) (Plus q) (Minus t u) l c = grind (arith, ints)
overflow_of_sum h d s r b nd ns nr zd zs zr (Minus p a) (Minus q v) (Plus t) l c = inl (grind (arith, ints))
overflow_of_sum h d s r b nd ns nr zd zs zr (Minus p a) (Minus q v) (Minus t u) l c = grind (arith, ints)

-- b is 1 where nothing is borrowed; t is d + not s + b
overflow_of_difference : (h d s r b : ℕ) (nd ns nr : Bool) (zd zs zr : ℤ) → Sign h d nd zd → Sign h s ns zs → Sign h r nr zr → b ≤ 1
    → Cut h (d + (2 * h - 1 - s) + b) r → MatchBool (not (same nd ns) && same nr ns) (Outside h ((zd -ℤ zs) -ℤ pos (1 - b))) (zr ≡ (zd -ℤ zs) -ℤ pos (1 - b))
overflow_of_difference h d s r b nd ns nr zd zs zr (Plus p) (Plus q) (Plus t) l c = grind (arith, ints)
overflow_of_difference h d s r b nd ns nr zd zs zr (Plus p) (Plus q) (Minus t u) l c = grind (arith, ints)
overflow_of_difference h d s r b nd ns nr zd zs zr (Plus p) (Minus q v) (Plus t) l c = grind (arith, ints)
overflow_of_difference h d s r b nd ns nr zd zs zr (Plus p) (Minus q v) (Minus t u) l c = inr (grind (arith, ints))
overflow_of_difference h d s r b nd ns nr zd zs zr (Minus p a) (Plus q) (Plus t) l c = inl (grind (arith, ints))
overflow_of_difference h d s r b nd ns nr zd zs zr (Minus p a) (Plus q) (Minus t u) l c = grind (arith, ints)
overflow_of_difference h d s r b nd ns nr zd zs zr (Minus p a) (Minus q v) (Plus t) l c = grind (arith, ints)
overflow_of_difference h d s r b nd ns nr zd zs zr (Minus p a) (Minus q v) (Minus t u) l c = grind (arith, ints)

pub cut_by_word : (t : ℕ) → t < 0x20000 → Cut 0x8000 t (t % 0x10000)
cut_by_word t h = elim (cases_lt t 0x10000) [ inl l ↦ inl (omega arith) | inr g ↦ inr (omega arith) ]

pub cut_by_byte : (t : ℕ) → t < 0x200 → Cut 0x80 t (t % 0x100 % 0x100)
cut_by_byte t h = elim (cases_lt t 0x100) [ inl l ↦ inl (omega arith) | inr g ↦ inr (omega arith) ]

pub is_overflow_of_sum : OverflowOfSum
is_overflow_of_sum Word d s carry hd hs =
    let b = bit_below carry in
    let r = sum_of Word d s carry in
    overflow_of_sum 0x8000 d s r.0 (bit carry) _ _ _ _ _ _ (sign_of Word d hd) (sign_of Word s hs) (sign_of Word r.0 (omega arith)) b
    (cut_by_word (d + s + bit carry) (omega arith))
is_overflow_of_sum Byte d s carry hd hs =
    let b = bit_below carry in
    let r = sum_of Byte d s carry in
    overflow_of_sum 0x80 (d % 0x100) (s % 0x100) (r.0 % 0x100) (bit carry) _ _ _ _ _ _ (sign_of Byte d hd) (sign_of Byte s hs)
    (sign_of Byte r.0 (omega arith)) b (cut_by_byte (d % 0x100 + s % 0x100 + bit carry) (omega arith))

pub is_overflow_of_difference : OverflowOfDifference
is_overflow_of_difference Word d s carry hd hs =
    let b = bit_below carry in
    let r = difference_of Word d s carry in
    overflow_of_difference 0x8000 d s r.0 (bit carry) _ _ _ _ _ _ (sign_of Word d hd) (sign_of Word s hs) (sign_of Word r.0 (omega arith)) b
    (cut_by_word (d + complement Word s + bit carry) (omega arith))
is_overflow_of_difference Byte d s carry hd hs =
    let b = bit_below carry in
    let r = difference_of Byte d s carry in
    overflow_of_difference 0x80 (d % 0x100) (s % 0x100) (r.0 % 0x100) (bit carry) _ _ _ _ _ _ (sign_of Byte d hd) (sign_of Byte s hs)
    (sign_of Byte r.0 (omega arith)) b (cut_by_byte (d % 0x100 + complement Byte s + bit carry) (omega arith))

sign_below : (h x : ℕ) (n : Bool) (z : ℤ) → Sign h x n z → IsTrue n ↔ (z <ℤ pos 0)
sign_below h x n z (Plus p) = grind (arith, ints)
sign_below h x n z (Minus p q) = grind (arith, ints)

pub is_sign : TopBitIsSign
is_sign w x h = sign_below _ _ _ _ (sign_of w x h)
