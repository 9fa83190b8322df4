-- The first of two places is the first at which either is so.
use Rattle.std.proofs.Common.{◌≡◌, ℕ, ◌-◌, ◌<◌, ◌≤◌, Bool, true, false, List, All, length, get_or, drop, map, Option, Some, None, ◌⊎◌, inl, inr, sym, subst}
use Rattle.std.proofs.Common.{ap, ◌∙◌, refl}
use Rattle.std.proofs.Common.{arith, if◌then◌else◌, nat_le}
use Rattle.std.proofs.lemmas.Bool.Decides.{nat_tests}
use Rattle.std.proofs.lemmas.List.{length-map, get_or-map}
use Rattle.alp_text.specs.declared.lines.Span.{Span}
use Rattle.task_ast.proofs.Interface.{drop_back}
use Rattle.path_checks.specs.Firsts.{IsFirst, SomeOf, first_of}

pub first_same : (o : Option Span) (P Q : Span → Type 0) → ((s : Span) → P s → Q s) → ((s : Span) → Q s → P s) → IsFirst o P → IsFirst o Q
first_same None P Q to from h = λ s q. h s (from s q)
first_same (Some r) P Q to from h = (to r h.0, λ s q. h.1 s (from s q))

le_true : (p q : ℕ) → nat_le p q ≡ true → p ≤ q
le_true p q h = grind (arith, nat_tests)

le_false : (p q : ℕ) → nat_le p q ≡ false → q ≤ p
le_false p q h = grind (arith, nat_tests)

pub first_either : (a b : Option Span) (P Q : Span → Type 0) → IsFirst a P → IsFirst b Q → IsFirst (first_of a b) (λ s. P s ⊎ Q s)
first_either None None P Q h k = λ s x. elim x [ inl y ↦ h s y | inr y ↦ k s y ]
first_either None (Some q) P Q h k = (inr k.0, λ s x. elim x [ inl y ↦ absurd (h s y) | inr y ↦ k.1 s y ])
first_either (Some p) None P Q h k = (inl h.0, λ s x. elim x [ inl y ↦ h.1 s y | inr y ↦ absurd (k s y) ])
first_either (Some p) (Some q) P Q h k = choose (nat_le p.from q.from) refl
  where
    choose : (b : Bool) → nat_le p.from q.from ≡ b → IsFirst (Some (if b then p else q)) (λ s. P s ⊎ Q s)
    choose true e =
        let l = le_true p.from q.from e in
        (inl h.0, λ s x. elim x [ inl y ↦ h.1 s y | inr y ↦ (let m : q.from ≤ s.from = k.1 s y in omega arith) ])
    choose false e =
        let l = le_false p.from q.from e in
        (inr k.0, λ s x. elim x [ inl y ↦ (let m : p.from ≤ s.from = h.1 s y in omega arith) | inr y ↦ k.1 s y ])

-- one more at the front
pub first_back : {A D : Type 0} (view : D → A) (P : A → Span → Type 0) (xs : List D) (i : ℕ) (x : D) (one all r : Option Span) → 0 < i → i ≤ length xs
    → x ≡ get_or xs (i - 1) x → r ≡ first_of one all → IsFirst one (P (view x)) → IsFirst all (λ s. SomeOf (map view (drop i xs)) (λ a. P a s))
    → IsFirst r (λ s. SomeOf (map view (drop (i - 1) xs)) (λ a. P a s))
first_back view P xs i x one all r pos h at e y z =
    let front = drop_back xs i x pos h at in
    subst (λ us. IsFirst r (λ s. SomeOf (map view us) (λ a. P a s))) (sym front)
    (subst (λ o. IsFirst o (λ s. P (view x) s ⊎ SomeOf (map view (drop i xs)) (λ a. P a s))) (sym e) (first_either one all _ _ y z))

-- all of them
pub first_whole : {A D : Type 0} (view : D → A) (P : A → Span → Type 0) (xs : List D) (i : ℕ) (r : Option Span) → i ≡ 0
    → IsFirst r (λ s. SomeOf (map view (drop i xs)) (λ a. P a s)) → IsFirst r (λ s. SomeOf (map view xs) (λ a. P a s))
first_whole view P xs i r z h = subst (λ j. IsFirst r (λ s. SomeOf (map view (drop j xs)) (λ a. P a s))) z h

-- what holds of each holds of one of them
pub one_of_all : {A D : Type 0} (view : D → A) (Q : A → Type 0) (xs : List D) (i : ℕ) (x : D) → 0 < i → i ≤ length xs → x ≡ get_or xs (i - 1) x
    → All Q (map view xs) → Q (view x)
one_of_all view Q xs i x pos le at all =
    let here = all (i - 1) (view x) (omega (arith, pos, le, length-map xs view)) in
    let same : get_or (map view xs) (i - 1) (view x) ≡ view x = get_or-map view xs (i - 1) x (view x) (omega arith) ∙ ap view (sym at) in
    subst Q same here

-- what follows of a list follows of the same list
pub of_same : {X : Type 0} (Q P : List X → Type 0) (xs ys : List X) → xs ≡ ys → Q ys → (Q xs → P xs) → P ys
of_same Q P xs ys e q h = subst P e (h (subst Q (sym e) q))
