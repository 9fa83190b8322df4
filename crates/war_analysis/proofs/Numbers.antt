-- Numbers that are so, in ascending order: how a loop over all numbers finds them, and that they are one list.
use Rattle.std.proofs.Common.{◌≡◌, ℕ, zero, suc, ◌+◌, ◌<◌, ◌⊎◌, List, [], ◌∷◌, ◌++◌, get_or, refl, ap, sym, ◌∙◌, subst, inl, inr, arith}
use Rattle.std.specs.Prelude.{All, AllPairs, Contains}
use Rattle.std.proofs.lemmas.Bool.{cases_lt}
use Rattle.std.proofs.lemmas.List.Elements.{All-nil, All-push, All-weaker, All-get_or, Contains-push, Contains-append_left}
use Rattle.std.proofs.lemmas.List.Quantifiers.{all_pairs_push}
use Rattle.war_analysis.specs.Plans.{AreNumbers}

-- exactly the numbers that are so and below another, in ascending order
pub record AreNumbersBelow (P : ℕ → Type 0) (n : ℕ) (xs : List ℕ) : Type 0 where
  pub ascending : AllPairs ◌<◌ xs
  pub low : All (λ i. i < n) xs
  pub only : All P xs
  pub each : (i : ℕ) → i < n → P i → Contains xs i

pub none_below : (P : ℕ → Type 0) → AreNumbersBelow P 0 []
none_below P = record {
  ascending = λ i j d l h. absurd (omega arith);
  low = All-nil (λ i. i < 0);
  only = All-nil P;
  each = λ i l p. absurd (omega arith);
}

pub one_more : (P : ℕ → Type 0) (n : ℕ) (xs ys : List ℕ) → AreNumbersBelow P n xs → P n → ys ≡ xs ++ n ∷ [] → AreNumbersBelow P (n + 1) ys
one_more P n xs ys h p e = subst (λ zs. AreNumbersBelow P (n + 1) zs) (sym e) (record {
  ascending = all_pairs_push ◌<◌ xs n h.ascending (λ k d l. All-get_or (λ i. i < n) xs k d l h.low);
  low = All-push (λ i. i < n + 1) xs n (All-weaker (λ i. i < n) (λ i. i < n + 1) (λ i l. omega arith) xs h.low) (omega arith);
  only = All-push P xs n h.only p;
  each = each;
})
  where
    each : (i : ℕ) → i < n + 1 → P i → Contains (xs ++ n ∷ []) i
    each i l q = elim (cases_lt i n) [
      | inl m ↦ Contains-append_left xs (n ∷ []) i (h.each i m q)
      | inr g ↦ let same : n ≡ i = omega arith in subst (λ j. Contains (xs ++ n ∷ []) j) same (Contains-push xs n)
    ]

pub none_more : (P : ℕ → Type 0) (n : ℕ) (xs : List ℕ) → AreNumbersBelow P n xs → (P n → ⊥) → AreNumbersBelow P (n + 1) xs
none_more P n xs h others = record {
  ascending = h.ascending;
  low = All-weaker (λ i. i < n) (λ i. i < n + 1) (λ i l. omega arith) xs h.low;
  only = h.only;
  each = each;
}
  where
    each : (i : ℕ) → i < n + 1 → P i → Contains xs i
    each i l q = elim (cases_lt i n) [
      | inl m ↦ h.each i m q
      | inr g ↦ let same : i ≡ n = omega arith in absurd (others (subst P same q))
    ]

pub all_numbers : (P : ℕ → Type 0) (n : ℕ) (xs : List ℕ) → AreNumbersBelow P n xs → ((i : ℕ) → P i → i < n) → AreNumbers P xs
all_numbers P n xs h low = record { ascending = h.ascending; only = h.only; each = λ i p. h.each i (low i p) p }

-- ---- one list

contains_none : (x : ℕ) → Contains [] x → ⊥
contains_none x h = let l : h.0 < 0 = h.1 in omega arith

contains_front : (x : ℕ) (xs : List ℕ) → Contains (x ∷ xs) x
contains_front x xs = (zero, omega arith, refl)

contains_behind : (y x : ℕ) (xs : List ℕ) → Contains xs x → Contains (y ∷ xs) x
contains_behind y x xs (k, l, e) = (suc k, omega arith, e)

front_or_behind : (y x : ℕ) (xs : List ℕ) → Contains (y ∷ xs) x → (y ≡ x) ⊎ Contains xs x
front_or_behind y x xs (zero, l, e) = inl e
front_or_behind y x xs (suc k, l, e) = inr (k, omega arith, e)

above : (y x : ℕ) (xs : List ℕ) → AllPairs ◌<◌ (y ∷ xs) → Contains xs x → y < x
above y x xs h (k, l, e) = let a : y < get_or xs k x = h 0 (suc k) x (omega arith) (omega arith) in omega arith

ascending_behind : (y : ℕ) (xs : List ℕ) → AllPairs ◌<◌ (y ∷ xs) → AllPairs ◌<◌ xs
ascending_behind y xs h = λ i j d l m. h (suc i) (suc j) d (omega arith) (omega arith)

fronts : (x y : ℕ) (xs ys : List ℕ) → AllPairs ◌<◌ (x ∷ xs) → AllPairs ◌<◌ (y ∷ ys) → Contains (y ∷ ys) x → Contains (x ∷ xs) y → x ≡ y
fronts x y xs ys a b f g = elim (front_or_behind y x ys f) [
  | inl e ↦ sym e
  | inr in_ys ↦ elim (front_or_behind x y xs g) [
    | inl e ↦ e
    | inr in_xs ↦ let l = above y x ys b in_ys in let m = above x y xs a in_xs in absurd (omega arith)
  ]
]

moved : (x y : ℕ) (xs ys : List ℕ) → x ≡ y → AllPairs ◌<◌ (x ∷ xs) → ((i : ℕ) → Contains (x ∷ xs) i → Contains (y ∷ ys) i) → (i : ℕ) → Contains xs i
    → Contains ys i
moved x y xs ys e a f i h = elim (front_or_behind y i ys (f i (contains_behind x i xs h))) [
  | inl same ↦ let l = above x i xs a h in absurd (omega arith)
  | inr in_ys ↦ in_ys
]

same_lists : (xs ys : List ℕ) → AllPairs ◌<◌ xs → AllPairs ◌<◌ ys → ((i : ℕ) → Contains xs i → Contains ys i) → ((i : ℕ) → Contains ys i → Contains xs i)
    → xs ≡ ys
same_lists [] [] a b f g = refl
same_lists [] (y ∷ ys) a b f g = absurd (contains_none y (g y (contains_front y ys)))
same_lists (x ∷ xs) [] a b f g = absurd (contains_none x (f x (contains_front x xs)))
same_lists (x ∷ xs) (y ∷ ys) a b f g =
    let e = fronts x y xs ys a b (f x (contains_front x xs)) (g y (contains_front y ys)) in
    let rest = same_lists xs ys (ascending_behind x xs a) (ascending_behind y ys b) (moved x y xs ys e a f) (moved y x ys xs (sym e) b g) in
    ap (λ h. h ∷ xs) e ∙ ap (λ t. y ∷ t) rest

contained : (P : ℕ → Type 0) (xs : List ℕ) (i : ℕ) → All P xs → Contains xs i → P i
contained P xs i h (k, l, e) = subst P e (h k i l)

-- the numbers that are so are one list
pub one_list : (P : ℕ → Type 0) (xs ys : List ℕ) → AreNumbers P xs → AreNumbers P ys → xs ≡ ys
one_list P xs ys a b = same_lists xs ys a.ascending b.ascending (λ i h. b.each i (contained P xs i a.only h)) (λ i h. a.each i (contained P ys i b.only h))
