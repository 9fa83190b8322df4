-- The words that a task works on stand apart.
use Rattle.std.proofs.Common.{◌≡◌, ℕ, ◌≤◌, inl, inr, arith, ap, subst, sym, ◌∙◌, Some, refl}
use Rattle.std.specs.Prelude.{Option, slice_get, All}
use Rattle.address_space.specs.Limits.{program_end}
use Rattle.memory_map.specs.declared.place.ArrayCopies.{ArrayCopies}
use Rattle.memory_map.specs.declared.place.VariablePlace.TheVariants.{Scalar, Array}
use Rattle.memory_map.specs.MemoryMap.{MemoryMap, TaskPlace}
use Rattle.memory_map.specs.Places.{end_of, HasItsPlace, copy_regions, version_regions, IsLaidOut}
use Rattle.memory_map.specs.Spots.{places_of, Element, IsElement, IsCopied, IsScalarWord, IsArrayAt, Spot, scalar, element, copy, version, IsSpot, spot_address}
use Rattle.memory_map.specs.Spots.{IsWordOf, SpotsAreApart, scalar_address}
use Rattle.memory_map.proofs.Parts.{apart_of, parts_in_fram}
use Rattle.memory_map.proofs.InRegions.{Row, IsIn, IsBetween, within, one_word}
use Rattle.memory_map.proofs.Homes.{home_between, one_home}
use Rattle.memory_map.proofs.Addresses.{copies_single, versions_single, element_is, copy_is, version_is, words_scalar, scalar_word, scalar_place, IsHomeOrCopy}

-- ---- spots

-- where a spot stands: among the words, the copies or the versions
pub data Stands (l : MemoryMap) (v i a : ℕ) : Type 0 where
  at_home : IsWordOf l v i a → Stands l v i a
  at_copy : IsIn copy_regions l.variables v i a → Stands l v i a
  at_version : IsIn version_regions l.variables v i a → Stands l v i a

abbrev pub number_of : Spot → ℕ
number_of (scalar v i) = v
number_of (element x) = x.array
number_of (copy x) = x.array
number_of (version x) = x.array

abbrev pub index_of : Spot → ℕ
index_of (scalar v i) = i
index_of (element x) = x.index
index_of (copy x) = x.index
index_of (version x) = x.index

-- the copies of all variables, and the version words
abbrev pub copies_row : (l : MemoryMap) → IsLaidOut l → Row
copies_row l h = record { regions = copy_regions; variables = l.variables; from = l.copies.address; end = end_of l.copies; ordered = h.copies }

abbrev versions_row : (l : MemoryMap) → IsLaidOut l → Row
versions_row l h = record { regions = version_regions; variables = l.variables; from = l.versions.address; end = end_of l.versions; ordered = h.versions }

module _ (l : MemoryMap) (h : IsLaidOut l) where
  copy_between : (v i a : ℕ) → IsIn copy_regions l.variables v i a → IsBetween l.copies.address a (end_of l.copies)
  copy_between v i a c = within (copies_row l h) v i a c

  pub version_between : (v i a : ℕ) → IsIn version_regions l.variables v i a → IsBetween l.versions.address a (end_of l.versions)
  version_between v i a c = within (versions_row l h) v i a c

  -- the regions of the three kinds, one behind another
  record Chain : Type 0 where
    versions : end_of l.versions ≤ l.homes.address
    homes : end_of l.homes ≤ l.copies.address
    high : end_of l.copies ≤ program_end

  chain : Chain
  chain =
      let a = apart_of l h in
      record { versions = a.homes; homes = a.copies; high = (parts_in_fram l h).copies.end }

  -- all that stand are between the versions and the end of the copies
  pub between : (v i a : ℕ) → Stands l v i a → IsBetween l.versions.address a program_end
  between v i a (at_home w) =
      let b = home_between l h v i a w in
      let x = b.from in let y = b.end in let r = chain.versions in let s = chain.homes in let t = chain.high in
      record { from = omega (arith, x, r); even = b.even; end = omega (arith, y, s, t) }
  between v i a (at_copy c) =
      let b = copy_between v i a c in
      let x = b.from in let y = b.end in let r = chain.versions in let s = chain.homes in let t = chain.high in
      record { from = omega (arith, x, r, s); even = b.even; end = omega (arith, y, t) }
  between v i a (at_version c) =
      let b = version_between v i a c in
      let x = b.from in let y = b.end in let r = chain.versions in let s = chain.homes in let t = chain.high in
      record { from = x; even = b.even; end = omega (arith, y, r, s, t) }

  home_not_copy : (v i w j a : ℕ) → IsWordOf l v i a → IsIn copy_regions l.variables w j a → ⊥
  home_not_copy v i w j a s c = let x = (home_between l h v i a s).end in let y = (copy_between w j a c).from in let r = chain.homes in omega (arith, x, y, r)

  version_not_home : (v i w j a : ℕ) → IsIn version_regions l.variables v i a → IsWordOf l w j a → ⊥
  version_not_home v i w j a c s =
      let x = (version_between v i a c).end in
      let y = (home_between l h w j a s).from in
      let r = chain.versions in
      omega (arith, x, y, r)

  version_not_copy : (v i w j a : ℕ) → IsIn version_regions l.variables v i a → IsIn copy_regions l.variables w j a → ⊥
  version_not_copy v i w j a c d =
      let x = (version_between v i a c).end in let y = (copy_between w j a d).from in let r = chain.versions in let s = chain.homes in
      omega (arith, x, y, r, s)

  one_copy : (v i w j a : ℕ) → IsIn copy_regions l.variables v i a → IsIn copy_regions l.variables w j a → (v ≡ w) × (i ≡ j)
  one_copy v i w j a s t = one_word (copies_row l h) v w i j a copies_single s t

  one_version : (v i w j a : ℕ) → IsIn version_regions l.variables v i a → IsIn version_regions l.variables w j a → (v ≡ w) × (i ≡ j)
  one_version v i w j a s t = one_word (versions_row l h) v w i j a versions_single s t

  module _ (layout : TaskPlace) (places : All (HasItsPlace l.variables) layout.privates) where
    pub stands : (s : Spot) → IsSpot (places_of l layout) s → Stands l (number_of s) (index_of s) (spot_address (places_of l layout) s)
    stands (scalar v i) k = by (scalar_word l layout v i places k)
      where
        by : IsHomeOrCopy l v i (scalar_address (places_of l layout) v i) → Stands l v i (scalar_address (places_of l layout) v i)
        by (inl w) = at_home w
        by (inr c) = at_copy c
    stands (element x) k = at_home (element_is l layout x k)
    stands (copy x) k = at_copy (copy_is l layout x k)
    stands (version x) k = at_version (version_is l layout x k)

    -- a scalar is no array
    no_scalar : (v i w elements length : ℕ) (copies : Option ArrayCopies) → IsScalarWord (places_of l layout) v i
        → IsArrayAt (places_of l layout) w elements length copies → v ≡ w → ⊥
    no_scalar v i w elements length copies k m e =
        let its = scalar_place (slice_get l.variables v) (words_scalar (slice_get l.variables v) i k) in
        let both : Some (Scalar its.home its.copy its.width) ≡ Some (Array elements length copies) = sym its.place ∙ ap (slice_get l.variables) e ∙ m.place in
        cc

    -- a scalar and an element stand apart, a scalar and a copy, a scalar and a version word
    scalar_element : (v i : ℕ) (x : Element) (a : ℕ) → IsScalarWord (places_of l layout) v i → IsElement (places_of l layout) x → IsHomeOrCopy l v i a
        → IsWordOf l x.array x.index a → ⊥
    scalar_element v i x a k m (inl w) s = no_scalar v i x.array m.elements m.length m.copies k m.is_array (one_home l h v i x.array x.index a w s).0
    scalar_element v i x a k m (inr c) s = home_not_copy x.array x.index v i a s c

    scalar_copy : (v i : ℕ) (x : Element) (a : ℕ) → IsScalarWord (places_of l layout) v i → IsCopied (places_of l layout) x → IsHomeOrCopy l v i a
        → IsIn copy_regions l.variables x.array x.index a → ⊥
    scalar_copy v i x a k m (inl w) s = home_not_copy v i x.array x.index a w s
    scalar_copy v i x a k m (inr c) s = no_scalar v i x.array m.elements m.length (Some m.copies) k m.is_array (one_copy v i x.array x.index a c s).0

    scalar_version : (v i : ℕ) (x : Element) (a : ℕ) → IsHomeOrCopy l v i a → IsIn version_regions l.variables x.array x.index a → ⊥
    scalar_version v i x a (inl w) s = version_not_home x.array x.index v i a s w
    scalar_version v i x a (inr c) s = version_not_copy x.array x.index v i a s c

    scalar_scalar : (v i w j a : ℕ) → IsHomeOrCopy l v i a → IsHomeOrCopy l w j a → (v ≡ w) × (i ≡ j)
    scalar_scalar v i w j a (inl s) (inl t) = one_home l h v i w j a s t
    scalar_scalar v i w j a (inl s) (inr t) = absurd (home_not_copy v i w j a s t)
    scalar_scalar v i w j a (inr s) (inl t) = absurd (home_not_copy w j v i a t s)
    scalar_scalar v i w j a (inr s) (inr t) = one_copy v i w j a s t

    same_scalar : (v i w j : ℕ) → (v ≡ w) × (i ≡ j) → scalar v i ≡ scalar w j
    same_scalar v i w j e = λ k. scalar (e.0 k) (e.1 k)

    word_of : (v i b : ℕ) → IsScalarWord (places_of l layout) v i → spot_address (places_of l layout) (scalar v i) ≡ b → IsHomeOrCopy l v i b
    word_of v i b k e = subst (IsHomeOrCopy l v i) e (scalar_word l layout v i places k)

    home_at : (x : Element) (b : ℕ) → IsElement (places_of l layout) x → spot_address (places_of l layout) (element x) ≡ b → IsWordOf l x.array x.index b
    home_at x b k e = subst (IsWordOf l x.array x.index) e (element_is l layout x k)

    copy_at : (x : Element) (b : ℕ) → IsCopied (places_of l layout) x → spot_address (places_of l layout) (copy x) ≡ b
        → IsIn copy_regions l.variables x.array x.index b
    copy_at x b k e = subst (IsIn copy_regions l.variables x.array x.index) e (copy_is l layout x k)

    version_at : (x : Element) (b : ℕ) → IsCopied (places_of l layout) x → spot_address (places_of l layout) (version x) ≡ b
        → IsIn version_regions l.variables x.array x.index b
    version_at x b k e = subst (IsIn version_regions l.variables x.array x.index) e (version_is l layout x k)

    same_element : (x y : Element) → (x.array ≡ y.array) × (x.index ≡ y.index) → x ≡ y
    same_element x y e = λ j. record { array = e.0 j; index = e.1 j }

    pub distinct : (s t : Spot) → IsSpot (places_of l layout) s → IsSpot (places_of l layout) t
        → spot_address (places_of l layout) s ≡ spot_address (places_of l layout) t → s ≡ t
    distinct (scalar v i) (scalar w j) k m e = same_scalar v i w j (scalar_scalar v i w j _ (word_of v i _ k e) (word_of w j _ m refl))
    distinct (scalar v i) (element x) k m e = absurd (scalar_element v i x _ k m (word_of v i _ k e) (home_at x _ m refl))
    distinct (scalar v i) (copy x) k m e = absurd (scalar_copy v i x _ k m (word_of v i _ k e) (copy_at x _ m refl))
    distinct (scalar v i) (version x) k m e = absurd (scalar_version v i x _ (word_of v i _ k e) (version_at x _ m refl))
    distinct (element x) (scalar w j) k m e = absurd (scalar_element w j x _ m k (word_of w j _ m refl) (home_at x _ k e))
    distinct (element x) (element y) k m e = ap element
        (same_element x y (one_home l h x.array x.index y.array y.index _ (home_at x _ k e) (home_at y _ m refl)))
    distinct (element x) (copy y) k m e = absurd (home_not_copy x.array x.index y.array y.index _ (home_at x _ k e) (copy_at y _ m refl))
    distinct (element x) (version y) k m e = absurd (version_not_home y.array y.index x.array x.index _ (version_at y _ m refl) (home_at x _ k e))
    distinct (copy x) (scalar w j) k m e = absurd (scalar_copy w j x _ m k (word_of w j _ m refl) (copy_at x _ k e))
    distinct (copy x) (element y) k m e = absurd (home_not_copy y.array y.index x.array x.index _ (home_at y _ m refl) (copy_at x _ k e))
    distinct (copy x) (copy y) k m e = ap copy (same_element x y (one_copy x.array x.index y.array y.index _ (copy_at x _ k e) (copy_at y _ m refl)))
    distinct (copy x) (version y) k m e = absurd (version_not_copy y.array y.index x.array x.index _ (version_at y _ m refl) (copy_at x _ k e))
    distinct (version x) (scalar w j) k m e = absurd (scalar_version w j x _ (word_of w j _ m refl) (version_at x _ k e))
    distinct (version x) (element y) k m e = absurd (version_not_home x.array x.index y.array y.index _ (version_at x _ k e) (home_at y _ m refl))
    distinct (version x) (copy y) k m e = absurd (version_not_copy x.array x.index y.array y.index _ (version_at x _ k e) (copy_at y _ m refl))
    distinct (version x) (version y) k m e =
        ap version (same_element x y (one_version x.array x.index y.array y.index _ (version_at x _ k e) (version_at y _ m refl)))

pub spots_are_apart : SpotsAreApart
spots_are_apart m t h places = record {
  each = λ s is.
      let b = between m h _ _ _ (stands m h t places s is) in
      record { even = b.even; from = b.from; end = b.end };
  distinct = distinct m h t places;
}
