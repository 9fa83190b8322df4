-- First lines that two texts share, and the byte behind a front.
use Rattle.std.proofs.Common.{◌≡◌, ℕ, zero, suc, ◌+◌, ◌==◌, if◌then◌else◌, Bool, List, [], ◌∷◌, ◌++◌, take, drop, arith, refl, ap, sym, ◌∙◌, true, false}
use Rattle.std.proofs.Common.{cond, inl, inr, Some, slice_get, add-one}
use Rattle.std.proofs.lemmas.Bool.Decides.{nat_tests}
use Rattle.alp_text.specs.Lines.{line_len}
use Rattle.report_audit.specs.Fronts.{Shares, first_line}

-- what stands behind equal fronts is equal
pub cancel : (p a b : List ℕ) → p ++ a ≡ p ++ b → a ≡ b
cancel [] a b e = e
cancel (x ∷ xs) a b e = cancel xs a b (cc e)

first_cons : (b : ℕ) (bs : List ℕ) → first_line (b ∷ bs) ≡ (if b == 10 then [] else b ∷ first_line bs)
first_cons b bs = elim (b == 10) as (λ v. take (cond v 0 (line_len bs + 1)) (b ∷ bs) ≡ cond v [] (b ∷ take (line_len bs) bs)) [
  | true ↦ refl
  | false ↦ rw add-one refl
]

-- the first line feed ends the first line, whatever stands behind it
front_first : (u x y : List ℕ) → first_line (u ++ 10 ∷ x) ≡ first_line (u ++ 10 ∷ y)
front_first [] x y = refl
front_first (b ∷ u) x y =
    first_cons b (u ++ 10 ∷ x)
    ∙ ap (λ l. if b == 10 then [] else b ∷ l) (front_first u x y)
    ∙ sym (first_cons b (u ++ 10 ∷ y))

pub shares_first_line : (a b : List ℕ) → Shares a b → first_line a ≡ first_line b
shares_first_line a b (inl e) = ap first_line e
shares_first_line a b (inr s) = ap first_line s.a_is ∙ front_first s.front s.behind_a s.behind_b ∙ ap first_line (sym s.b_is)

-- a text with a line feed is its first line, a line feed, and what stands behind
pub split_first : (u x : List ℕ) → (rest : List ℕ) × (u ++ 10 ∷ x ≡ first_line (u ++ 10 ∷ x) ++ 10 ∷ rest)
split_first [] x = (x, refl)
split_first (b ∷ u) x = by_feed (split_first u x) (b == 10) refl
  where
    by_feed : (rest : List ℕ) × (u ++ 10 ∷ x ≡ first_line (u ++ 10 ∷ x) ++ 10 ∷ rest) → (v : Bool) → (b == 10) ≡ v
        → (rest : List ℕ) × ((b ∷ (u ++ 10 ∷ x)) ≡ first_line (b ∷ (u ++ 10 ∷ x)) ++ 10 ∷ rest)
    by_feed more true e =
        let is : b ≡ 10 = grind (arith, nat_tests, e) in
        let none : first_line (b ∷ (u ++ 10 ∷ x)) ≡ [] = first_cons b (u ++ 10 ∷ x) ∙ ap (λ v. cond v [] (b ∷ first_line (u ++ 10 ∷ x))) e in
        (u ++ 10 ∷ x, ap (λ c. c ∷ (u ++ 10 ∷ x)) is ∙ ap (λ l. l ++ 10 ∷ (u ++ 10 ∷ x)) (sym none))
    by_feed more false e =
        let one : first_line (b ∷ (u ++ 10 ∷ x)) ≡ b ∷ first_line (u ++ 10 ∷ x) =
        first_cons b (u ++ 10 ∷ x) ∙ ap (λ v. cond v [] (b ∷ first_line (u ++ 10 ∷ x))) e in
        (more.0, ap (λ l. b ∷ l) more.1 ∙ ap (λ l. l ++ 10 ∷ more.0) (sym one))

-- the byte behind a front is the first of what stands behind it
pub byte_behind : (report : List ℕ) (at : ℕ) (b : ℕ) (rest : List ℕ) → drop at report ≡ b ∷ rest → slice_get report at ≡ Some b
byte_behind [] zero b rest e = cc e
byte_behind [] (suc n) b rest e = cc e
byte_behind (x ∷ xs) zero b rest e = cc e
byte_behind (x ∷ xs) (suc n) b rest e = byte_behind xs n b rest e
