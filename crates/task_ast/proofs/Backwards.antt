-- A list of a tree that is walked from its end.
use Rattle.std.proofs.Common.{◌≡◌, ℕ, suc, ◌-◌, ◌<◌, ◌≤◌, List, ◌∷◌, length, get_or, drop, sym, ap, ◌∙◌, arith, drop-cons}

-- an element in front of those behind it
pub drop_back : {A : Type 0} (xs : List A) (i : ℕ) (a : A) → 0 < i → i ≤ length xs → a ≡ get_or xs (i - 1) a → drop (i - 1) xs ≡ a ∷ drop i xs
drop_back xs i a pos h is =
    let lt : i - 1 < length xs = omega arith in
    let e : suc (i - 1) ≡ i = omega arith in
    drop-cons xs (i - 1) a lt ∙ ap (λ x. x ∷ drop (suc (i - 1)) xs) (sym is) ∙ ap (λ j. a ∷ drop j xs) e
