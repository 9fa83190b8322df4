-- The functions that a task reaches stand in order: their numbers and their addresses ascend.
use Rattle.std.proofs.Common.{◌≡◌, ℕ, zero, suc, ◌+◌, ◌*◌, ◌<◌, ◌≤◌, ◌==◌, Bool, true, false, if◌then◌else◌, List, [], ◌∷◌, Some}
use Rattle.std.proofs.Common.{refl, sym, ap, subst, ◌∙◌, ◌⊎◌, ⊎_elim, arith}
use Rattle.std.specs.Prelude.{slice_get}
use Rattle.std.proofs.lemmas.Bool.{cases_lt, eqb-true}
use Rattle.std.proofs.lemmas.Option.{same_Some, none-some}
use Rattle.cost_bound.specs.Summary.{Summary}
use Rattle.function_locals.specs.declared.locals.FunctionLocals.{FunctionLocals}
use Rattle.memory_map.specs.declared.place.RoutinePlace.{RoutinePlace}
use Rattle.memory_map.specs.Spots.{routine_among}
use Rattle.privatise.specs.Routines.{routine_room, routine_at, routines_from}

-- from this number and this address on
abbrev pub Ascends : ℕ → ℕ → List RoutinePlace → Type 0
Ascends k at [] = Unit {0}
Ascends k at (r ∷ rs) = (k ≤ r.function) × (at ≤ r.code.address) × Ascends (suc r.function) (suc r.code.address) rs

from_before : (j k to at : ℕ) (rs : List RoutinePlace) → j ≤ k → to ≤ at → Ascends k at rs → Ascends j to rs
from_before j k to at [] l m h = tt
from_before j k to at (r ∷ rs) l m h = let first = h.0 in let place = h.1 in (omega (arith, l, first), omega (arith, m, place), h.2)

one_more : (b : Bool) (stack k at : ℕ) (s : Summary) (l : FunctionLocals) (more others : List RoutinePlace) → Ascends (k + 1) (at + 2 * routine_room s) more
    → Ascends (k + 1) at others → Ascends k at (if b then routine_at stack k at s l ∷ more else others)
one_more true stack k at s l more others h n =
    (omega arith, omega arith, from_before (suc k) (k + 1) (suc at) (at + 2 * routine_room s) more (omega arith) (omega arith) h)
one_more false stack k at s l more others h n = from_before k (k + 1) at at others (omega arith) (omega arith) n

pub routines_ascend : (stack : ℕ) (marks : ℕ → Bool) (k at : ℕ) (ss : List Summary) (ls : List FunctionLocals)
    → Ascends k at (routines_from stack marks k at ss ls)
routines_ascend stack marks k at [] ls = tt
routines_ascend stack marks k at (s ∷ ss) [] = tt
routines_ascend stack marks k at (s ∷ ss) (l ∷ ls) =
    one_more (marks k) stack k at s l (routines_from stack marks (k + 1) (at + 2 * routine_room s) ss ls) (routines_from stack marks (k + 1) at ss ls)
    (routines_ascend stack marks (k + 1) (at + 2 * routine_room s) ss ls) (routines_ascend stack marks (k + 1) at ss ls)

-- ---- by where they stand

-- each stands from there on
stands_from : (k at : ℕ) (rs : List RoutinePlace) → Ascends k at rs → (m : ℕ) (r : RoutinePlace) → slice_get rs m ≡ Some r
    → (k ≤ r.function) × (at ≤ r.code.address)
stands_from k at [] h m r e = absurd (none-some r e)
stands_from k at (x ∷ rs) h zero r e =
    subst (λ (y : RoutinePlace). (k ≤ y.function) × (at ≤ y.code.address)) (same_Some x r e) (h.0, h.1)
stands_from k at (x ∷ rs) h (suc m) r e =
    let later = stands_from (suc x.function) (suc x.code.address) rs h.2 m r e in
    let number = later.0 in
    let place = later.1 in
    let first = h.0 in
    let front = h.1 in (omega (arith, first, number), omega (arith, front, place))

pub address_from : (k at : ℕ) (rs : List RoutinePlace) → Ascends k at rs → (m : ℕ) (r : RoutinePlace) → slice_get rs m ≡ Some r → at ≤ r.code.address
address_from k at rs h m r e = (stands_from k at rs h m r e).1

-- what stands in front of another one has a smaller number and a smaller address
pub in_front : (k at : ℕ) (rs : List RoutinePlace) → Ascends k at rs → (m i : ℕ) (r q : RoutinePlace) → m < i → slice_get rs m ≡ Some r
    → slice_get rs i ≡ Some q → (r.function < q.function) × (r.code.address < q.code.address)
in_front k at [] h m i r q l e f = absurd (none-some r e)
in_front k at (x ∷ rs) h m zero r q l e f = absurd (let none : ⊥ = omega (arith, l) in none)
in_front k at (x ∷ rs) h zero (suc i) r q l e f =
    let later = stands_from (suc x.function) (suc x.code.address) rs h.2 i q f in
    subst (λ (y : RoutinePlace). (y.function < q.function) × (y.code.address < q.code.address)) (same_Some x r e)
    (let number = later.0 in let place = later.1 in (omega (arith, number), omega (arith, place)))
in_front k at (x ∷ rs) h (suc m) (suc i) r q l e f = in_front (suc x.function) (suc x.code.address) rs h.2 m i r q (omega (arith, l)) e f

-- and what has a smaller number stands in front
pub stands_in_front : (k at : ℕ) (rs : List RoutinePlace) → Ascends k at rs → (m i : ℕ) (r q : RoutinePlace) → slice_get rs m ≡ Some r → slice_get rs i ≡ Some q
    → r.function < q.function → m < i
stands_in_front k at rs h m i r q e f l = ⊎_elim (λ (low : m < i). low) (λ (high : i ≤ m). absurd (behind high)) (cases_lt m i)
  where
    same : i ≡ m → r.function ≡ q.function
    same is = ap (λ (x : RoutinePlace). x.function) (same_Some r q (sym e ∙ ap (slice_get rs) (sym is) ∙ f))

    behind : i ≤ m → ⊥
    behind high = ⊎_elim further here (cases_lt i m)
      where
        further : i < m → ⊥
        further low = let less = (in_front k at rs h i m q r low f e).0 in omega (arith, l, less)

        here : m ≤ i → ⊥
        here up = let is : i ≡ m = omega (arith, high, up) in let equal = same is in omega (arith, l, equal)

-- ---- by number

pub record IsAmong (rs : List RoutinePlace) (number : ℕ) (r : RoutinePlace) : Type 0 where
  pub index : ℕ
  pub at : slice_get rs index ≡ Some r
  pub is : r.function ≡ number

pub is_among : (rs : List RoutinePlace) (number : ℕ) (r : RoutinePlace) → routine_among rs number ≡ Some r → IsAmong rs number r
is_among [] number r e = absurd (none-some r e)
is_among (x ∷ rs) number r e = among_by (x.function == number) x rs number r refl e (λ later. is_among rs number r later)
  where
    among_by : (b : Bool) (x : RoutinePlace) (rs : List RoutinePlace) (number : ℕ) (r : RoutinePlace) → (x.function == number) ≡ b
        → (if b then Some x else routine_among rs number) ≡ Some r → (routine_among rs number ≡ Some r → IsAmong rs number r) → IsAmong (x ∷ rs) number r
    among_by true x rs number r same e later =
        let is = same_Some x r e in
        record { index = 0; at = e; is = ap (λ (y : RoutinePlace). y.function) (sym is) ∙ eqb-true x.function number same }
    among_by false x rs number r same e later = let there = later e in record { index = suc there.index; at = there.at; is = there.is }
