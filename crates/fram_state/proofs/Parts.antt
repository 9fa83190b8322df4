-- Parts of a list that end with it, if it is too short.
use Rattle.std.proofs.Common.{◌≡◌, ◌<◌, ◌≤◌, ℕ, ◌⊎◌, inl, inr, List, length, take, drop, min, sym, ap, ◌∙◌, arith}
use Rattle.std.proofs.lemmas.Bool.{cases_lt}
use Rattle.std.proofs.lemmas.List.{take_all, drop_all}

pub take_min : (n : ℕ) (xs : List ℕ) → take (min n (length xs)) xs ≡ take n xs
take_min n xs = by_order (cases_lt n (length xs))
  where
    by_order : (n < length xs) ⊎ (length xs ≤ n) → take (min n (length xs)) xs ≡ take n xs
    by_order (inl less) = let is : min n (length xs) ≡ n = omega arith in ap (λ k. take k xs) is
    by_order (inr more) = take_all (min n (length xs)) xs (omega arith) ∙ sym (take_all n xs more)

pub drop_min : (n : ℕ) (xs : List ℕ) → drop (min n (length xs)) xs ≡ drop n xs
drop_min n xs = by_order (cases_lt n (length xs))
  where
    by_order : (n < length xs) ⊎ (length xs ≤ n) → drop (min n (length xs)) xs ≡ drop n xs
    by_order (inl less) = let is : min n (length xs) ≡ n = omega arith in ap (λ k. drop k xs) is
    by_order (inr more) = drop_all (min n (length xs)) xs (omega arith) ∙ sym (drop_all n xs more)
