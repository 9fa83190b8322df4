-- What the order of regions says of variables.
use Rattle.std.proofs.Common.{◌≡◌, ℕ, zero, suc, ◌<◌, ◌≤◌, List, [], ◌∷◌, map, sym, ◌∙◌, ap, subst, arith, Some, None}
use Rattle.std.specs.Prelude.{slice_get, Contains}
use Rattle.std.specs.Option.{option_map}
use Rattle.std.specs.List.{flat_map}
use Rattle.std.proofs.lemmas.Option.{slice_get-map, slice_get-get_or}
use Rattle.memory_map.specs.declared.place.Region.{Region}
use Rattle.memory_map.specs.declared.place.VariablePlace.{VariablePlace}
use Rattle.memory_map.specs.MemoryMap.{MemoryMap}
use Rattle.memory_map.specs.Places.{end_of, AreInOrder, home_region, copy_regions, version_regions, IsLaidOut}
use Rattle.memory_map.specs.Laws.{HomesAreApart, CopiesAreApart, VersionsAreApart}
use Rattle.memory_map.proofs.Parts.{apart_of}
use Rattle.memory_map.proofs.InOrder.{Within, in_order_within, in_order_apart, in_order_split, in_order_end}

-- a variable's region among those of all
pub mapped : {A B : Type 0} (f : A → B) (xs : List A) (i : ℕ) (a : A) → slice_get xs i ≡ Some a → slice_get (map f xs) i ≡ Some (f a)
mapped f xs i a e = slice_get-map f xs i ∙ ap (option_map f) e

pub homes_apart : (l : MemoryMap) → IsLaidOut l → HomesAreApart l
homes_apart l h i j a b lt e f = in_order_apart l.homes.address (map home_region l.variables) (end_of l.homes) i j (home_region a) (home_region b) h.homes lt
    (mapped home_region l.variables i a e) (mapped home_region l.variables j b f)

-- one region among others
pub contained : (from : ℕ) (rs : List Region) (end : ℕ) (r : Region) → AreInOrder from rs end → Contains rs r → Within from r end
contained from rs end r h (k, l, e) = in_order_within from rs end k r h (slice_get-get_or rs k r l ∙ ap Some e)

-- a region is one of a variable's
pub record IsOfVariable (f : VariablePlace → List Region) (vs : List VariablePlace) (i : ℕ) (r : Region) : Type 0 where
  pub place : VariablePlace
  pub at : slice_get vs i ≡ Some place
  pub contains : Contains (f place) r

-- the regions of one variable among those of all
pub among : (f : VariablePlace → List Region) (from : ℕ) (vs : List VariablePlace) (end : ℕ) (i : ℕ) (a : VariablePlace) (r : Region)
    → AreInOrder from (flat_map f vs) end → slice_get vs i ≡ Some a → Contains (f a) r → Within from r end
among f from [] end i a r h e c = let no : None ≡ Some a = e in cc
among f from (v ∷ vs) end zero a r h e c =
    let same : v ≡ a = cc in
    let s = in_order_split from (f v) (flat_map f vs) end h in
    let w = contained from (f v) s.0 r s.1 (subst (λ x. Contains (f x) r) (sym same) c) in
    let rest = in_order_end s.0 (flat_map f vs) end s.2 in
    record { from = w.from; even = w.even; end = let x = w.end in omega (arith, x, rest) }
among f from (v ∷ vs) end (suc i) a r h e c =
    let s = in_order_split from (f v) (flat_map f vs) end h in
    let w = among f s.0 vs end i a r s.2 e c in
    let front = in_order_end from (f v) s.0 s.1 in
    record { from = let x = w.from in omega (arith, x, front); even = w.even; end = w.end }

-- the regions of a later variable stand behind those of an earlier one
pub later : (f : VariablePlace → List Region) (from : ℕ) (vs : List VariablePlace) (end : ℕ) (i j : ℕ) (r q : Region)
    → AreInOrder from (flat_map f vs) end → i < j → IsOfVariable f vs i r → IsOfVariable f vs j q → end_of r ≤ q.address
later f from [] end i j r q h l x y = let no : None ≡ Some x.place = x.at in cc
later f from (v ∷ vs) end zero zero r q h l x y = absurd (omega arith)
later f from (v ∷ vs) end (suc i) zero r q h l x y = absurd (omega arith)
later f from (v ∷ vs) end zero (suc j) r q h l x y =
    let same : v ≡ x.place = let e = x.at in cc in
    let s = in_order_split from (f v) (flat_map f vs) end h in
    let w = contained from (f v) s.0 r s.1 (subst (λ x. Contains (f x) r) (sym same) x.contains) in
    let z = among f s.0 vs end j y.place q s.2 y.at y.contains in
    let below = w.end in
    let above = z.from in
    omega (arith, below, above)
later f from (v ∷ vs) end (suc i) (suc j) r q h l x y =
    let s = in_order_split from (f v) (flat_map f vs) end h in
    later f s.0 vs end i j r q s.2 (omega arith) (record { place = x.place; at = x.at; contains = x.contains })
    (record { place = y.place; at = y.at; contains = y.contains })

pub copies_apart : (l : MemoryMap) → IsLaidOut l → CopiesAreApart l
copies_apart l h = record {
  from_each_other = λ i j a b r q lt e f c d. later copy_regions l.copies.address l.variables (end_of l.copies) i j r q h.copies lt
      (record { place = a; at = e; contains = c }) (record { place = b; at = f; contains = d });
  from_homes = λ i j a b q e f d.
      let home = (in_order_within l.homes.address (map home_region l.variables) (end_of l.homes) i (home_region a) h.homes
      (mapped home_region l.variables i a e)).end in
      let copy = (among copy_regions l.copies.address l.variables (end_of l.copies) j b q h.copies f d).from in
      let between = (apart_of l h).copies in
      omega (arith, home, copy, between);
}

pub versions_apart : (l : MemoryMap) → IsLaidOut l → VersionsAreApart l
versions_apart l h =
    let end : ℕ = end_of l.versions in
    record {
      from_each_other = λ i j a b r q lt e f c d. later version_regions l.versions.address l.variables end i j r q h.versions lt
          (record { place = a; at = e; contains = c }) (record { place = b; at = f; contains = d });
      from = λ i a r e c. (among version_regions l.versions.address l.variables end i a r h.versions e c).from;
      below = λ i a r e c. (among version_regions l.versions.address l.variables end i a r h.versions e c).end;
      even = λ i a r e c. (among version_regions l.versions.address l.variables end i a r h.versions e c).even;
    }
