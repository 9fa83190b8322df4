-- What a word says as a number: the same as `clap` and Rust's integers read of it.
use Rattle.std.proofs.Common.{◌≡◌, ◌≤ℤ◌, ◌∙◌, ℕ, ℤ, Bool, cond, true, false, suc, zero, refl, sym, ap, subst, arith, List, Some, None, option_map}
use Rattle.std.proofs.lemmas.Int.{ints}
use Rattle.std.specs.Prelude.{decimal, pos, negsuc, neg_ℤ, unsigned_abs, unwrap_or, FitsSigned, Ok, Err, OkIff, Result}
use Rattle.std.specs.Result.{result_ok}
use Rattle.std.specs.Int.{FitsUnsignedBits}
use mir.Syntax.{w64}
use Rattle.std.specs.Str.Parse.{IsNumeral, ParsesSigned, signed_digits_value, starts_with_minus, without_leading_sign}
use Rattle.clap.specs.Values.{Accepts}
use Rattle.clap.specs.ValueTests.{is_signed_in}
use Rattle.clap.proofs.ValueTestLemmas.{accepts-Accepts, Accepts-accepts}
use Rattle.command_line.specs.CommandLine.{number_in, number_parser, number_said}

abbrev is_number : List ℕ → Bool
is_number word = is_signed_in (pos 0) (pos 4294967295) word

-- what `i64` reads
abbrev pub IsRead : List ℕ → Type 0
IsRead word = IsNumeral 10 (without_leading_sign word) × FitsSigned w64 (signed_digits_value 10 word)

without_sign : (b : Bool) (d : ℕ) → unsigned_abs (cond b (neg_ℤ (pos d)) (pos d)) ≡ d
without_sign false d = refl
without_sign true zero = refl
without_sign true (suc d) = refl

within : (word : List ℕ) → IsRead word → FitsUnsignedBits 32 (signed_digits_value 10 word) → is_number word ≡ true
within word read fits = Accepts-accepts false number_parser word (read.0, read.1, go.0, go.1)
  where
    bounds : (z : ℤ) → FitsUnsignedBits 32 z → (pos 0 ≤ℤ z) × (z ≤ℤ pos 4294967295)
    bounds (pos n) h = (omega (arith, ints), omega (arith, ints, h))
    bounds (negsuc n) h = absurd h

    go : (pos 0 ≤ℤ signed_digits_value 10 word) × (signed_digits_value 10 word ≤ℤ pos 4294967295)
    go = bounds (signed_digits_value 10 word) fits

outside : (word : List ℕ) → is_number word ≡ true → IsRead word × FitsUnsignedBits 32 (signed_digits_value 10 word)
outside word e =
    let h : Accepts false number_parser word = accepts-Accepts false number_parser word e in
    ((h.0, h.1), bits (signed_digits_value 10 word) h.2 h.3)
  where
    bits : (z : ℤ) → pos 0 ≤ℤ z → z ≤ℤ pos 4294967295 → FitsUnsignedBits 32 z
    bits (pos n) low high = omega (arith, ints, high)
    bits (negsuc n) low high = omega (arith, ints, low)

-- a number that was read
pub number_there : (word : List ℕ) (z : ℤ) → IsRead word → z ≡ signed_digits_value 10 word → FitsUnsignedBits 32 z
    → number_said word ≡ Some (decimal (unsigned_abs z))
number_there word z read is fits =
    ap (λ b. cond b (Some (decimal (number_in word))) None) (within word read (subst (FitsUnsignedBits 32) is fits))
    ∙ ap (λ n. Some (decimal n)) (sym (without_sign (starts_with_minus word) (number_in word)) ∙ ap unsigned_abs (sym is))

-- no number of 32 bits
pub no_number : (word : List ℕ) → (IsRead word → FitsUnsignedBits 32 (signed_digits_value 10 word) → ⊥) → number_said word ≡ None
no_number word h = go (is_number word) refl
  where
    go : (b : Bool) → is_number word ≡ b → number_said word ≡ None
    go true e = let o = outside word e in absurd (h o.0 o.1)
    go false e = ap (λ b. cond b (Some (decimal (number_in word))) None) e

-- where `i64` reads nothing
pub not_read : {E : Type 0} (word : List ℕ) (parsed : Result ℤ E) → ParsesSigned w64 10 word parsed → None ≡ result_ok parsed → number_said word ≡ None
not_read word (Ok z) p e = cc
not_read word (Err x) p e = no_number word (λ read fits. p read)

-- where it reads a number z, of which x is what is handed on: it is one of `u32` or is none
pub is_read : {E F : Type 0} (word : List ℕ) (parsed : Result ℤ E) (z x : ℤ) (n : Result ℕ F) → ParsesSigned w64 10 word parsed → Some z ≡ result_ok parsed
    → (FitsSigned w64 z → x ≡ z) → OkIff n (FitsUnsignedBits 32 x) (unsigned_abs x) → option_map (λ n. decimal n) (result_ok n) ≡ number_said word
is_read word (Err e) z x n p is handed q = cc
is_read word (Ok y) z x (Ok n) p is handed q =
    let same : z ≡ y = ap (λ o. unwrap_or o z) is in
    let read : z ≡ signed_digits_value 10 word = same ∙ p.1 in
    let on : x ≡ signed_digits_value 10 word = handed (subst (FitsSigned w64) (sym read) p.0.1) ∙ read in
    ap (λ n. Some (decimal n)) q.1 ∙ sym (number_there word x p.0 on q.0)
is_read word (Ok y) z x (Err e) p is handed q =
    let same : z ≡ y = ap (λ o. unwrap_or o z) is in
    let read : z ≡ signed_digits_value 10 word = same ∙ p.1 in
    let on : x ≡ signed_digits_value 10 word = handed (subst (FitsSigned w64) (sym read) p.0.1) ∙ read in
    sym (no_number word (λ _ fits. q (subst (FitsUnsignedBits 32) (sym on) fits)))
