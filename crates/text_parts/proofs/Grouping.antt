-- The first group of a list.
use Rattle.std.proofs.Common.{◌≡◌, ◌≤◌, ◌<◌, ℕ, suc, zero, ◌-◌, ◌==◌, List, [], ◌∷◌, length, take, drop, min, arith, refl, ap, sym, ◌∙◌, if◌then◌else◌, Bool}
use Rattle.std.proofs.Common.{true, false, length-drop}
use Rattle.std.proofs.lemmas.List.{drop_min}
use Rattle.std.proofs.lemmas.Bool.Decides.{nat_tests}
use Rattle.text_parts.specs.Groups.{groups, groups_from, onto_group, AreGroups}

take_none : {A : Type 0} (k : ℕ) → take {A = A} k [] ≡ []
take_none zero = refl
take_none (suc k) = refl

drop_none : {A : Type 0} (k : ℕ) → drop {A = A} k [] ≡ []
drop_none zero = refl
drop_none (suc k) = refl

pub groups_none : {A : Type 0} (size k : ℕ) → groups_from {A = A} size k [] ≡ []
unfolding groups_from
groups_none size k = refl

same : {A : Type 0} (t : Bool) (x : List (List A)) → (if t then x else x) ≡ x
same true x = refl
same false x = refl

group_by : {A : Type 0} (t : Bool) (size k : ℕ) (w : A) (vs : List A) (y : List (List A)) → (suc k == 1) ≡ t → (0 < k → y ≡ take k vs ∷ groups size (drop k vs))
    → (if t then (w ∷ []) ∷ groups size vs else onto_group w y) ≡ (w ∷ take k vs) ∷ groups size (drop k vs)
group_by true size k w vs y e g = let z : k ≡ 0 = grind (arith, nat_tests, e) in rw z refl
group_by false size k w vs y e g = let some : 0 < k = grind (arith, nat_tests, e) in ap (onto_group w) (g some)

group_cons : {A : Type 0} (size k : ℕ) (w v : A) (vs : List A) → groups_from size (suc k) (w ∷ v ∷ vs)
    ≡ (if suc k == 1 then (w ∷ []) ∷ groups size (v ∷ vs) else onto_group w (groups_from size k (v ∷ vs)))
unfolding groups_from
group_cons size k w v vs = ap (λ j. if suc k == 1 then (w ∷ []) ∷ groups size (v ∷ vs) else onto_group w (groups_from size j (v ∷ vs)))
    (let z : suc k - 1 ≡ k = omega arith in z)

group_last : {A : Type 0} (size k : ℕ) (w : A) → groups_from size (suc k) (w ∷ []) ≡ (w ∷ take k []) ∷ groups size (drop k [])
unfolding groups_from
group_last size k w = same (suc k == 1) ((w ∷ []) ∷ []) ∙ ap (λ r. (w ∷ r) ∷ []) (sym (take_none k))
    ∙ ap (λ g. (w ∷ take k []) ∷ g) (sym (groups_none size size) ∙ ap (groups size) (sym (drop_none k)))

group_first : {A : Type 0} (size k : ℕ) (w : A) (ws : List A) → groups_from size (suc k) (w ∷ ws) ≡ (w ∷ take k ws) ∷ groups size (drop k ws)
group_first size k w [] = group_last size k w
group_first size zero w (v ∷ vs) = group_cons size 0 w v vs
group_first size (suc k) w (v ∷ vs) = group_cons size (suc k) w v vs ∙ group_by (suc (suc k) == 1) size (suc k) w (v ∷ vs)
    (groups_from size (suc k) (v ∷ vs)) refl (λ h. group_first size k v vs)

take_least : {A : Type 0} (n : ℕ) (xs : List A) → take (min n (length xs)) xs ≡ take n xs
take_least zero xs = ap (λ k. take k xs) (let z : min 0 (length xs) ≡ 0 = omega arith in z)
take_least (suc n) [] = ap (λ k. take k []) (let z : min (suc n) 0 ≡ 0 = omega arith in z)
take_least (suc n) (x ∷ xs) = ap (λ k. take k (x ∷ xs)) (let z : min (suc n) (suc (length xs)) ≡ suc (min n (length xs)) = omega arith in z)
    ∙ ap (λ r. x ∷ r) (take_least n xs)

pub no_groups : {A : Type 0} (size : ℕ) (ws : List A) → length ws ≡ 0 → groups size ws ≡ []
no_groups size [] h = groups_none size size
no_groups size (w ∷ ws) h = absurd (omega arith)

-- the first so many, or all there are
first_group : {A : Type 0} (size : ℕ) (ws : List A) → 0 < size → 0 < length ws → groups size ws ≡ take size ws ∷ groups size (drop size ws)
first_group zero ws s h = absurd (omega arith)
first_group (suc k) [] s h = absurd (omega arith)
first_group (suc k) (w ∷ ws) s h = group_first (suc k) k w ws

pub group_cut : {A : Type 0} (size : ℕ) (ws front back : List A) (n : ℕ) → 0 < size → 0 < length ws → n ≡ min size (length ws) → front ≡ take n ws
    → back ≡ drop n ws
    → (groups size ws ≡ front ∷ groups size back) × (length back < length ws)
group_cut size ws front back n s h m e f = (
  first_group size ws s h ∙ ap (λ r. r ∷ groups size (drop size ws)) (sym (e ∙ ap (λ k. take k ws) m ∙ take_least size ws))
      ∙ ap (λ r. front ∷ groups size r) (sym (f ∙ ap (λ k. drop k ws) m ∙ drop_min size ws)),
  omega (arith, ap length f, length-drop n ws, m),
)

-- the groups of a list, where it has at most so many items
made_within : {A : Type 0} (size most : ℕ) (ws : List A) → 0 < size → length ws ≤ most → AreGroups size (groups size ws) ws
made_within size most [] s h = rw (groups_none {A = _} size size) refl
made_within size zero (w ∷ ws) s h = absurd (omega arith)
made_within size (suc most) (w ∷ ws) s h =
    let P : List (List _) → Type 0 = λ gs. AreGroups size gs (w ∷ ws) in
    rw (first_group size (w ∷ ws) s (omega arith)) (omega arith, refl, made_within size most (drop size (w ∷ ws)) s (omega (arith, length-drop size (w ∷ ws))))

pub groups_made : {A : Type 0} (size : ℕ) (ws : List A) → 0 < size → AreGroups size (groups size ws) ws
groups_made size ws s = made_within size (length ws) ws s (omega arith)
