-- The private scalars of a task are scalars of the source in order of declaration.
use Rattle.std.proofs.Common.{◌≡◌, ◌∙◌, ℕ, suc, ◌+◌, ◌-◌, ◌<◌, ◌≤◌, ◌==◌, ◌&&◌, Bool, true, false, cond, List, [], ◌∷◌, map, refl, sym, ap, arith, Option}
use Rattle.std.proofs.Common.{Some, None, is_none, eqb-true}
use Rattle.std.specs.Prelude.{All, AllPairs, slice_get, IsSomeAnd}
use Rattle.std.specs.Str.{bytes_eq}
use Rattle.std.proofs.lemmas.Bool.Decides.{nat_tests}
use Rattle.std.proofs.lemmas.List.Elements.{All-head, All-tail}
use Rattle.std.proofs.lemmas.Slice.Eq.{bytes_eq-Decides}
use Rattle.task_ast.specs.declared.Extent.{Extent}
use Rattle.task_ast.specs.declared.Extent.TheVariants as extent
use Rattle.task_ast.specs.declared.SharedDeclaration.{SharedDeclaration}
use Rattle.image_map.specs.MapValue.{are_scalars, is_scalar_of}
use Rattle.source_runs.specs.Naming.{length_of}
use Rattle.source_report.specs.SourceReport.{spelled}
use Rattle.privatise.specs.war_analysis.Plans.{IsScalarAt, is_scalar}
use Rattle.memory_map.specs.declared.place.VariablePlace.{VariablePlace}
use Rattle.source_maps.specs.Maps.{variable_of, variables_of, shared_name, name_in}
use Rattle.source_maps.specs.Placing.{IsOfKind, ArePlacesOf}

-- numbers from one on, each greater than the one before
abbrev pub AreFrom : ℕ → List ℕ → Type 0
AreFrom j [] = Unit {0}
AreFrom j (n ∷ ns) = (j ≤ n) × AreFrom (suc n) ns

abbrev StartsFrom : ℕ → List ℕ → Type 0
StartsFrom j [] = Unit {0}
StartsFrom j (n ∷ ns) = j ≤ n

next_starts : (n : ℕ) (ns : List ℕ) → AllPairs ◌<◌ (n ∷ ns) → StartsFrom (suc n) ns
next_starts n [] h = tt
next_starts n (m ∷ ms) h = let l = h 0 1 0 (omega arith) (omega arith) in omega (arith, l)

pub from_pairs : (j : ℕ) (ns : List ℕ) → AllPairs ◌<◌ ns → StartsFrom j ns → AreFrom j ns
from_pairs j [] h low = tt
from_pairs j (n ∷ ns) h low = (low, from_pairs (suc n) ns (λ i k d a b. h (suc i) (suc k) d (omega (arith, a)) (omega (arith, b))) (next_starts n ns h))

pub starts_anywhere : (ns : List ℕ) → StartsFrom 0 ns
starts_anywhere [] = tt
starts_anywhere (n ∷ ns) = omega arith

weaker : (j k : ℕ) (ns : List ℕ) → j ≤ k → AreFrom k ns → AreFrom j ns
weaker j k [] l h = tt
weaker j k (n ∷ ns) l h = let low = h.0 in (omega (arith, l, low), h.1)

scalar_there : (text : List ℕ) (d : SharedDeclaration) (place : VariablePlace) → IsOfKind d.extent place → is_scalar d.extent ≡ true
    → is_scalar_of (spelled text d.name) (variable_of text d place) ≡ true
scalar_there text d place kind h = by d.extent kind h
  where
    same : bytes_eq (spelled text d.name) (spelled text d.name) ≡ true
    same = (bytes_eq-Decides (spelled text d.name) (spelled text d.name)).1 refl

    by : (e : Extent) → IsOfKind e place → is_scalar e ≡ true → (is_none (length_of e) && bytes_eq (spelled text d.name) (spelled text d.name)) ≡ true
    by (extent.Scalar w) k h = same
    by (extent.Long n) k h = same
    by (extent.Array n) k h = absurd (cc)

none_scalar : {A : Type 0} (o : Option A) (P : A → Type 0) → o ≡ None → IsSomeAnd o P → ⊥
none_scalar None P e h = h
none_scalar (Some x) P e h = absurd (cc)

some_scalar : (o : Option SharedDeclaration) (d : SharedDeclaration) → o ≡ Some d → IsSomeAnd o (λ d. is_scalar d.extent ≡ true) → is_scalar d.extent ≡ true
some_scalar None d e h = absurd h
some_scalar (Some x) d e h = let same : x ≡ d = cc in ap (λ y. is_scalar y.extent) (sym same) ∙ h

module _ (text : List ℕ) (shared : List SharedDeclaration) where
  -- the variables from a number on
  abbrev AreBehind : ℕ → List SharedDeclaration → Type 0
  AreBehind j ds = (i : ℕ) → slice_get ds i ≡ slice_get shared (i + j)

  pub scalars_from : (j : ℕ) (ds : List SharedDeclaration) (ps : List VariablePlace) (ns : List ℕ) → ArePlacesOf ds ps → AreBehind j ds → AreFrom j ns
      → All (IsScalarAt shared) ns → are_scalars (map (shared_name text shared) ns) (variables_of text ds ps) ≡ true
  scalars_from j ds ps [] places behind from scalars = refl
  scalars_from j [] ps (n ∷ ns) places behind from scalars =
      let low = from.0 in
      let number : n - j + j ≡ n = omega (arith, low) in
      absurd (none_scalar (slice_get shared n) _ (ap (slice_get shared) (sym number) ∙ sym (behind (n - j))) (All-head (IsScalarAt shared) n ns scalars))
  scalars_from j (d ∷ ds) [] (n ∷ ns) places behind from scalars = absurd places
  scalars_from j (d ∷ ds) (p ∷ ps) (n ∷ ns) places behind from scalars =
      let low = from.0 in
      let later : AreBehind (suc j) ds = λ i. behind (suc i) ∙ ap (slice_get shared) (omega arith) in
      go (is_scalar_of (shared_name text shared n) (variable_of text d p)) refl
      (scalars_from (suc j) ds ps ns places.1 later (weaker (suc j) (suc n) ns (omega (arith, low)) from.1) (All-tail (IsScalarAt shared) n ns scalars))
      (λ next. scalars_from (suc j) ds ps (n ∷ ns) places.1 later (next, from.1) scalars)
    where
      other : is_scalar_of (shared_name text shared n) (variable_of text d p) ≡ false → suc j ≤ n
      other e = by (j == n) refl
        where
          by : (b : Bool) → (j == n) ≡ b → suc j ≤ n
          by false ne = let low = from.0 in grind (arith, nat_tests, ne, low)
          by true same =
              let equal : j ≡ n = eqb-true j n same in
              let place : n ≡ 0 + j = omega (arith, equal) in
              let at : slice_get shared n ≡ Some d = ap (slice_get shared) place ∙ sym (behind 0) in
              let scalar = some_scalar (slice_get shared n) d at (All-head (IsScalarAt shared) n ns scalars) in
              let there : is_scalar_of (shared_name text shared n) (variable_of text d p) ≡ true =
              ap (λ o. is_scalar_of (name_in text o) (variable_of text d p)) at ∙ scalar_there text d p places.0 scalar in
              absurd (let no : true ≡ false = sym there ∙ e in cc)

      go : (b : Bool) → is_scalar_of (shared_name text shared n) (variable_of text d p) ≡ b
          → are_scalars (map (shared_name text shared) ns) (variables_of text ds ps) ≡ true
          → (suc j ≤ n → are_scalars (map (shared_name text shared) (n ∷ ns)) (variables_of text ds ps) ≡ true)
          → are_scalars (cond b (map (shared_name text shared) ns) (map (shared_name text shared) (n ∷ ns))) (variables_of text ds ps) ≡ true
      go true e found more = found
      go false e found more = more (other e)
