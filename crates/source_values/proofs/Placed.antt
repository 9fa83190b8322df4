-- The locals of a function that is called with some words.
use Rattle.std.proofs.Common.{◌≡◌, ◌≤◌, ◌+◌, ℕ, zero, suc, List, [], ◌∷◌, ◌++◌, length, take, replicate, slice_set, refl, ap, ◌∙◌, sym, arith}
use Rattle.std.proofs.lemmas.List.{length-replicate}
use Rattle.source_values.specs.Values.{new_locals}
use Rattle.source_values.specs.View.{placed}

-- nothing is set past the end
set_past : (words : List ℕ) (k w : ℕ) → length words ≤ k → slice_set words k w ≡ words
set_past [] k w h = refl
set_past (v ∷ words) zero w h = absurd (omega arith)
set_past (v ∷ words) (suc k) w h = ap (λ ws. v ∷ ws) (set_past words k w (omega arith))

-- past the last local there is nothing to set
pub placed_past : (k : ℕ) (words : List ℕ) → 256 ≤ k → placed k words ≡ new_locals
placed_past k [] h = refl
placed_past k (w ∷ words) h =
    let long : length new_locals ≡ 256 = length-replicate {A = ℕ} 256 0 in
    ap (λ ws. slice_set ws k w) (placed_past (k + 1) words (omega arith)) ∙ set_past new_locals k w (omega (arith, long))

-- zeros in front of zeros
zeros : (n k m : ℕ) → n ≤ k + m → take {A = ℕ} n (replicate k 0 ++ replicate m 0) ≡ replicate n 0
zeros zero k m h = refl
zeros (suc n) zero zero h = absurd (omega arith)
zeros (suc n) zero (suc m) h = ap (λ ws. 0 ∷ ws) (zeros n zero m (omega arith))
zeros (suc n) (suc k) m h = ap (λ ws. 0 ∷ ws) (zeros n k m (omega arith))

-- a word set behind zeros
set_behind : (n k w : ℕ) (words : List ℕ) → slice_set (take n (replicate (suc k) 0 ++ words)) k w ≡ take n (replicate k 0 ++ w ∷ words)
set_behind zero k w words = refl
set_behind (suc n) zero w words = refl
set_behind (suc n) (suc k) w words = ap (λ ws. 0 ∷ ws) (set_behind n k w words)

placed_behind : (k : ℕ) (words : List ℕ) → placed k words ≡ take 256 (replicate k 0 ++ (words ++ new_locals))
placed_behind k [] = sym (zeros 256 k 256 (omega arith))
placed_behind k (w ∷ words) =
    let next : k + 1 ≡ suc k = omega arith in
    ap (λ ws. slice_set ws k w) (placed_behind (k + 1) words ∙ ap (λ j. take 256 (replicate j 0 ++ (words ++ new_locals))) next)
    ∙ set_behind 256 k w (words ++ new_locals)

-- words are in front, and zeros behind them
pub placed_is : (words : List ℕ) → placed 0 words ≡ take 256 (words ++ new_locals)
placed_is words = placed_behind 0 words
