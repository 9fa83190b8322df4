-- A piece with and without a carriage return at its end.
use Rattle.std.proofs.Common.{◌≡◌, ◌≢◌, ◌<◌, ℕ, suc, zero, ◌-◌, ◌==◌, List, [], ◌∷◌, length, get_or, take, arith, refl, ap, sym, if◌then◌else◌, Bool, true}
use Rattle.std.proofs.Common.{false}
use Rattle.text_parts.specs.Lines.{without_return}

return_by : (n b : ℕ) (bs : List ℕ) → suc n ≡ length (b ∷ bs) → get_or (b ∷ bs) n 0 ≡ 13 → without_return (b ∷ bs) ≡ take n (b ∷ bs)
return_by zero b [] e h = rw h refl
return_by (suc n) b [] e h = absurd (omega arith)
return_by zero b (c ∷ cs) e h = absurd (omega arith)
return_by (suc n) b (c ∷ cs) e h = ap (λ r. b ∷ r) (return_by n c cs (omega arith) h)

-- a piece that ends in a carriage return
pub return_last : (piece : List ℕ) → 0 < length piece → get_or piece (length piece - 1) 0 ≡ 13 → take (length piece - 1) piece ≡ without_return piece
return_last [] l h = absurd (omega arith)
return_last (b ∷ bs) l h = sym (return_by (length (b ∷ bs) - 1) b bs (omega arith) h)

one_by : (t : Bool) (b : ℕ) → (b == 13) ≡ t → b ≢ 13 → (if t then [] else b ∷ []) ≡ b ∷ []
one_by true b e ne = absurd (ne (grind arith))
one_by false b e ne = refl

other_by : (n b : ℕ) (bs : List ℕ) → suc n ≡ length (b ∷ bs) → get_or (b ∷ bs) n 0 ≢ 13 → without_return (b ∷ bs) ≡ b ∷ bs
other_by zero b [] e h = one_by (b == 13) b refl h
other_by (suc n) b [] e h = absurd (omega arith)
other_by zero b (c ∷ cs) e h = absurd (omega arith)
other_by (suc n) b (c ∷ cs) e h = ap (λ r. b ∷ r) (other_by n c cs (omega arith) h)

pub return_none : (piece : List ℕ) → length piece ≡ 0 → piece ≡ without_return piece
return_none [] h = refl
return_none (b ∷ bs) h = absurd (omega arith)

-- another piece stays whole
pub other_last : (piece : List ℕ) → get_or piece (length piece - 1) 0 ≢ 13 → piece ≡ without_return piece
other_last [] h = refl
other_last (b ∷ bs) h = sym (other_by (length (b ∷ bs) - 1) b bs (omega arith) h)
