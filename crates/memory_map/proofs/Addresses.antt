-- The addresses of the words that a task works on.
use Rattle.std.proofs.Common.{◌≡◌, ℕ, ◌+◌, ◌*◌, ◌<◌, ◌≤◌, ◌⊎◌, inl, inr, List, [], ◌∷◌, length, arith, ap, subst, sym, ◌∙◌, Some, None, refl, true, false}
use Rattle.std.specs.Prelude.{slice_get, All, Option, ◌==◌}
use Rattle.std.proofs.lemmas.Bool.{eqb-true, cases_Bool}
use Rattle.std.proofs.lemmas.List.Elements.{All-head, All-tail}
use Rattle.memory_map.specs.declared.place.Region.{Region}
use Rattle.memory_map.specs.declared.place.ScalarWidth.{ScalarWidth}
use Rattle.memory_map.specs.declared.place.ScalarWidth.TheVariants.{OneWord, TwoWords}
use Rattle.memory_map.specs.declared.place.VariablePlace.{VariablePlace}
use Rattle.memory_map.specs.declared.place.VariablePlace.TheVariants.{Scalar, Array}
use Rattle.memory_map.specs.declared.place.PrivateScalar.{PrivateScalar}
use Rattle.memory_map.specs.MemoryMap.{MemoryMap, TaskPlace}
use Rattle.memory_map.specs.Places.{scalar_words, HasItsPlace, copy_regions, version_regions}
use Rattle.memory_map.specs.Spots.{Places, places_of, private_words, copy_among, home_of, home_in, copy_else, scalar_address}
use Rattle.memory_map.specs.Spots.{Element, IsElement, IsCopied, IsScalarAt, IsScalarPlace, words_at, IsScalarWord}
use Rattle.memory_map.specs.Spots.{element_in, copy_in, version_in, element_address, copy_address, version_address, IsWordOf}
use Rattle.memory_map.proofs.InRegions.{IsIn, IsSingle, alone, alone_is}

-- ---- one region of a kind for each variable

pub copies_single : IsSingle copy_regions
copies_single (Scalar home copy width) r q c d =
    let its : Region = record { address = copy; words = scalar_words width } in
    sym (alone_is its r c) ∙ alone_is its q d
copies_single (Array elements length (Some k)) r q c d =
    sym (alone_is (record { address = k.copies; words = length }) r c) ∙ alone_is (record { address = k.copies; words = length }) q d
copies_single (Array elements length None) r q c d = let no = c.1 in absurd (omega (arith, no))

pub versions_single : IsSingle version_regions
versions_single (Scalar home copy width) r q c d = let no = c.1 in absurd (omega (arith, no))
versions_single (Array elements length (Some k)) r q c d =
    sym (alone_is (record { address = k.versions; words = length }) r c) ∙ alone_is (record { address = k.versions; words = length }) q d
versions_single (Array elements length None) r q c d = let no = c.1 in absurd (omega (arith, no))

-- ---- elements

module _ (l : MemoryMap) (layout : TaskPlace) where
  pub element_is : (x : Element) → IsElement (places_of l layout) x → IsWordOf l x.array x.index (element_address (places_of l layout) x)
  element_is x e =
      record { place = Array e.elements e.length e.copies; at = e.is_array.place; below = e.below; address = ap (λ o. element_in o x.index) e.is_array.place }

  pub copy_is : (x : Element) → IsCopied (places_of l layout) x → IsIn copy_regions l.variables x.array x.index (copy_address (places_of l layout) x)
  copy_is x e =
      let r : Region = record { address = e.copies.copies; words = e.length } in
      record {
        place = Array e.elements e.length (Some e.copies);
        region = r;
        at = e.is_array.place;
        contains = alone r;
        below = e.below;
        address = ap (λ o. copy_in o x.index) e.is_array.place;
      }

  pub version_is : (x : Element) → IsCopied (places_of l layout) x → IsIn version_regions l.variables x.array x.index (version_address (places_of l layout) x)
  version_is x e =
      let r : Region = record { address = e.copies.versions; words = e.length } in
      record {
        place = Array e.elements e.length (Some e.copies);
        region = r;
        at = e.is_array.place;
        contains = alone r;
        below = e.below;
        address = ap (λ o. version_in o x.index) e.is_array.place;
      }

-- ---- scalars

-- a scalar has a word
pub some_words : (width : ScalarWidth) → 0 < scalar_words width
some_words OneWord = omega arith
some_words TwoWords = omega arith

-- and not more than two
pub few_words : (width : ScalarWidth) → scalar_words width ≤ 2
few_words OneWord = omega arith
few_words TwoWords = omega arith

-- so private scalars are no more than their words
pub privates_few : (privates : List PrivateScalar) → length privates ≤ private_words privates
privates_few [] = omega arith
privates_few (s ∷ more) = let some = some_words s.width in let rest = privates_few more in omega (arith, some, rest)

-- a word of a scalar's copy among all copies
pub scalar_copy : (l : MemoryMap) (v home copy : ℕ) (width : ScalarWidth) (i : ℕ) → slice_get l.variables v ≡ Some (Scalar home copy width)
    → i < scalar_words width → IsIn copy_regions l.variables v i (2 * i + copy)
scalar_copy l v home copy width i e below =
    let r : Region = record { address = copy; words = scalar_words width } in
    record { place = Scalar home copy width; region = r; at = e; contains = alone r; below = below; address = refl }

-- a word of a scalar
pub scalar_home : (l : MemoryMap) (v home copy : ℕ) (width : ScalarWidth) (i : ℕ) → slice_get l.variables v ≡ Some (Scalar home copy width)
    → i < scalar_words width → IsWordOf l v i (2 * i + home)
scalar_home l v home copy width i e below = record { place = Scalar home copy width; at = e; below = below; address = refl }

-- a place of a scalar with this copy
abbrev pub HasCopy : List VariablePlace → ℕ → ℕ → Type 0
HasCopy vs v copy = (home : ℕ) × (width : ScalarWidth) × (slice_get vs v ≡ Some (Scalar home copy width))

-- what is found among the private scalars is the copy of the variable
pub among_is : (vs : List VariablePlace) (xs : List PrivateScalar) (v copy : ℕ) → All (HasItsPlace vs) xs → copy_among xs v ≡ Some copy → HasCopy vs v copy
among_is vs [] v copy h e = let no : None ≡ Some copy = e in cc
among_is vs (s ∷ xs) v copy h e = pick (cases_Bool (s.number == v)) (among_is vs xs v copy (All-tail (HasItsPlace vs) s xs h))
  where
    pick : ((s.number == v) ≡ true) ⊎ ((s.number == v) ≡ false) → (copy_among xs v ≡ Some copy → HasCopy vs v copy) → HasCopy vs v copy
    pick (inl t) others =
        let found : Some s.copy ≡ Some copy = rw t at e in
        let same : s.copy ≡ copy = cc in
        let place = (All-head (HasItsPlace vs) s xs h).place in
        (s.home, s.width, ap (slice_get vs) (sym (eqb-true s.number v t)) ∙ place ∙ ap (λ c. Some (Scalar s.home c s.width)) same)
    pick (inr f) others = let rest : copy_among xs v ≡ Some copy = rw f at e in others rest

-- the place of a scalar
pub record IsPlaceOfScalar (o : Option VariablePlace) : Type 0 where
  pub home : ℕ
  pub copy : ℕ
  pub width : ScalarWidth
  pub place : o ≡ Some (Scalar home copy width)

pub scalar_place : (o : Option VariablePlace) → IsScalarPlace o → IsPlaceOfScalar o
scalar_place (Some (Scalar home copy width)) h = record { home = home; copy = copy; width = width; place = refl }
scalar_place (Some (Array elements length copies)) h = absurd h
scalar_place None h = absurd h

-- what has a word is a scalar
pub words_scalar : (o : Option VariablePlace) (i : ℕ) → i < words_at o → IsScalarPlace o
words_scalar (Some (Scalar home copy width)) i h = tt
words_scalar (Some (Array elements length copies)) i h = absurd (omega (arith, h))
words_scalar None i h = absurd (omega (arith, h))

-- and a scalar has a first word
pub first_word : (p : Places) (v : ℕ) → IsScalarAt p v → IsScalarWord p v 0
first_word p v k =
    let its = scalar_place (slice_get p.map.variables v) k in
    subst (λ n. 0 < n) (sym (ap words_at its.place)) (some_words its.width)

-- an address is that of a scalar's word, or of its copy
abbrev pub IsHomeOrCopy : MemoryMap → ℕ → ℕ → ℕ → Type 0
IsHomeOrCopy l v i a = IsWordOf l v i a ⊎ IsIn copy_regions l.variables v i a

pub scalar_word : (l : MemoryMap) (layout : TaskPlace) (v i : ℕ) → All (HasItsPlace l.variables) layout.privates → IsScalarWord (places_of l layout) v i
    → IsHomeOrCopy l v i (scalar_address (places_of l layout) v i)
scalar_word l layout v i h k = by (copy_among layout.privates v) refl
  where
    below : (home copy : ℕ) (width : ScalarWidth) → slice_get l.variables v ≡ Some (Scalar home copy width) → i < scalar_words width
    below home copy width place = subst (λ n. i < n) (ap words_at place) k

    by : (o : Option ℕ) → copy_among layout.privates v ≡ o → IsHomeOrCopy l v i (2 * i + copy_else o (home_of l.variables v))
    by (Some c) e =
        let (home, width, place) = among_is l.variables layout.privates v c h e in
        inr (scalar_copy l v home c width i place (below home c width place))
    by None e =
        let its = scalar_place (slice_get l.variables v) (words_scalar (slice_get l.variables v) i k) in
        let home = scalar_home l v its.home its.copy its.width i its.place (below its.home its.copy its.width its.place) in
        inl (subst (λ a. IsWordOf l v i (2 * i + a)) (sym (ap home_in its.place)) home)
