-- Lists that are the same item by item.
use Rattle.std.proofs.Common.{◌≡◌, ◌<◌, ◌+◌, ℕ, zero, suc, List, [], ◌∷◌, ◌++◌, length, get_or, take, refl, sym, ap, ◌∙◌, add-one, arith}
use Rattle.std.proofs.Math.Seq.{take-suc}

-- an item is the same, whatever stands behind the list
get_at : {X : Type 0} (xs : List X) (i : ℕ) (d e : X) → i < length xs → get_or xs i d ≡ get_or xs i e
get_at [] i d e h = absurd (omega arith)
get_at (x ∷ xs) zero d e h = refl
get_at (x ∷ xs) (suc i) d e h = get_at xs i d e (omega arith)

-- one item more
pub same_more : {X : Type 0} (xs ys : List X) (i : ℕ) (x y : X) → i < length xs → i < length ys → x ≡ get_or xs i x → y ≡ get_or ys i y → x ≡ y
    → take i xs ≡ take i ys → take (i + 1) xs ≡ take (i + 1) ys
same_more xs ys i x y h k at bt e before =
    let last : get_or xs i x ≡ get_or ys i x = sym at ∙ e ∙ bt ∙ get_at ys i y x k in
    ap (λ n. take n xs) (add-one i) ∙ take-suc xs i x h ∙ ap (λ z. z ++ (get_or xs i x ∷ [])) before ∙ ap (λ z. take i ys ++ (z ∷ [])) last
    ∙ sym (take-suc ys i x k) ∙ ap (λ n. take n ys) (sym (add-one i))

-- the items of equal lists
pub same_item : {X : Type 0} (xs ys : List X) (i : ℕ) (x y : X) → i < length xs → x ≡ get_or xs i x → y ≡ get_or ys i y → xs ≡ ys → x ≡ y
same_item xs ys i x y h at bt e = at ∙ get_at xs i x y h ∙ ap (λ zs. get_or zs i y) e ∙ sym bt
