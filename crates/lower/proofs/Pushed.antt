-- Lists with one more at their end.
use Rattle.lower.proofs.Names.{◌≡◌, ℕ, zero, suc, ◌+◌, ◌<◌, ◌≤◌, List, [], ◌∷◌, ◌++◌, length, Some, None, refl, ap, ◌∙◌, arith, ⊎_elim, inl, inr, ◌⊎◌}
use Rattle.lower.proofs.Names.{length-append}
use Rattle.lower.proofs.Names.{get_or_append_left, get_or-append_seam}
use Rattle.std.proofs.Common.{get_or, slice_get}

pub pushed_at : {A : Type 0} (xs : List A) (x : A) (i : ℕ) (y : A) → slice_get (xs ++ x ∷ []) i ≡ Some y
    → (slice_get xs i ≡ Some y) ⊎ ((i ≡ length xs) × (x ≡ y))
pushed_at [] x zero y h = let same : x ≡ y = cc in inr (refl, same)
pushed_at [] x (suc i) y h = let never : None ≡ Some y = h in absurd (cc)
pushed_at (z ∷ xs) x zero y h = inl h
pushed_at (z ∷ xs) x (suc i) y h =
    ⊎_elim {C = (slice_get xs i ≡ Some y) ⊎ ((suc i ≡ suc (length xs)) × (x ≡ y))} (λ old. inl old) (λ new. inr (ap suc new.0, new.1)) (pushed_at xs x i y h)

-- what stands at a number, in front and at the end
pub in_front : {A : Type 0} (xs : List A) (x d : A) (i : ℕ) → i < length xs → get_or (xs ++ x ∷ []) i d ≡ get_or xs i d
in_front xs x d i l = get_or_append_left xs (x ∷ []) d i l

pub at_end : {A : Type 0} (xs : List A) (x d : A) (i : ℕ) → i ≡ length xs → get_or (xs ++ x ∷ []) i d ≡ x
at_end xs x d i e = ap (λ j. get_or (xs ++ x ∷ []) j d) e ∙ get_or-append_seam xs x [] d

pub one_longer : {A : Type 0} (xs : List A) (x : A) (n : ℕ) → length xs ≡ n → length (xs ++ x ∷ []) ≡ n + 1
one_longer xs x n e = length-append xs (x ∷ []) ∙ ap (λ j. j + 1) e

-- where nothing stands, it is past the end
pub none_past : {A : Type 0} (xs : List A) (i : ℕ) → slice_get xs i ≡ None → length xs ≤ i
none_past [] i h = omega arith
none_past (x ∷ xs) zero h = absurd (let never : Some x ≡ None = h in cc)
none_past (x ∷ xs) (suc i) h = let more = none_past xs i h in omega (arith, more)
