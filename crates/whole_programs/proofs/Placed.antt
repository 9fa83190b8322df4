-- The addresses of a layout are words.
use Rattle.std.proofs.Common.{◌≡◌, ℕ, zero, suc, ◌==◌, ◌≤◌, Bool, true, false, List, [], ◌∷◌, map, Option, Some, None, refl, ◌∙◌, ap, subst, arith, slice_get}
use Rattle.std.proofs.Common.{if◌then◌else◌}
use Rattle.std.specs.Prelude.{All}
use Rattle.std.specs.List.{flat_map, AllByRecursion}
use Rattle.std.specs.Option.{option_map}
use Rattle.std.proofs.lemmas.Option.{slice_get-map}
use Rattle.std.proofs.lemmas.List.Elements.{All-head, All-tail}
use Rattle.alp_words.specs.Words.{IsWord}
use Rattle.address_space.specs.Limits.{program_end}
use Rattle.memory_map.specs.declared.words.RuntimeWord.{RuntimeWord}
use Rattle.memory_map.specs.declared.place.Region.{Region}
use Rattle.memory_map.specs.declared.place.ArrayCopies.{ArrayCopies}
use Rattle.memory_map.specs.declared.place.VariablePlace.{VariablePlace}
use Rattle.memory_map.specs.declared.place.VariablePlace.TheVariants.{Scalar, Array}
use Rattle.memory_map.specs.declared.place.PrivateScalar.{PrivateScalar}
use Rattle.memory_map.specs.declared.place.RoutinePlace.{RoutinePlace}
use Rattle.memory_map.specs.MemoryMap.{MemoryMap, TaskPlace, word_place}
use Rattle.memory_map.specs.Places.{end_of, scalar_words, AreInOrder, home_region, copy_regions, version_regions, code_regions}
use Rattle.memory_map.specs.Places.{HasItsPlace, IsLaidOut}
use Rattle.memory_map.proofs.Interface.{parts_in_fram, words_stand, in_order_within, in_order_split, in_order_end}
use Rattle.memory_map.specs.Spots.{Places, places_of, routine_places, address_of, copy_among, home_in, home_of, copy_else}

abbrev pub CopiesOfWords : Option ArrayCopies → Type 0
CopiesOfWords None = Unit {0}
CopiesOfWords (Some c) = IsWord c.copies × IsWord c.versions

-- the addresses and the length of the variable at a place are words
abbrev pub PlaceOfWords : Option VariablePlace → Type 0
PlaceOfWords None = Unit {0}
PlaceOfWords (Some (Scalar home copy width)) = IsWord home × IsWord copy
PlaceOfWords (Some (Array elements length copies)) = IsWord elements × IsWord length × CopiesOfWords copies

abbrev pub PrivateOfWords : PrivateScalar → Type 0
PrivateOfWords s = IsWord s.home × IsWord s.copy

-- the code of each function begins at an address that is a word
abbrev pub HasCodeOfWords : List RoutinePlace → Type 0
HasCodeOfWords rs = (i : ℕ) (r : RoutinePlace) → slice_get rs i ≡ Some r → IsWord r.code.address

-- all addresses that a task's program needs are words
pub record PlacesOfWords (p : Places) : Type 0 where
  pub words : (w : RuntimeWord) → IsWord (word_place p.map w)
  pub list : IsWord p.map.list.address
  pub emits : IsWord p.map.emits.address
  pub commit : IsWord p.map.commit.address
  pub addresses : (v : ℕ) → IsWord (address_of p v)
  pub places : (v : ℕ) → PlaceOfWords (slice_get p.map.variables v)
  pub privates : AllByRecursion PrivateOfWords p.privates
  pub routines : HasCodeOfWords p.routines

-- they are the same where a function's code is at work
pub routine_words : (p : Places) (r : RoutinePlace) → PlacesOfWords p → PlacesOfWords (routine_places p r)
routine_words p r h = record {
  words = h.words;
  list = h.list;
  emits = h.emits;
  commit = h.commit;
  addresses = h.addresses;
  places = h.places;
  privates = h.privates;
  routines = h.routines;
}

-- the regions of one of a row among those of all end by the end
regions_end : {A : Type 0} (f : A → List Region) (from : ℕ) (vs : List A) (end i : ℕ) (v : A) → AreInOrder from (flat_map f vs) end → slice_get vs i ≡ Some v
    → (low : ℕ) × (high : ℕ) × (high ≤ end) × AreInOrder low (f v) high
regions_end f from [] end i v h e = absurd (cc)
regions_end f from (x ∷ vs) end zero v h e =
    let same : x ≡ v = cc in
    let s = in_order_split from (f x) (flat_map f vs) end h in
    (from, s.0, in_order_end s.0 (flat_map f vs) end s.2, subst (λ y. AreInOrder from (f y) s.0) same s.1)
regions_end f from (x ∷ vs) end (suc i) v h e = let s = in_order_split from (f x) (flat_map f vs) end h in regions_end f s.0 vs end i v s.2 e

module _ (l : MemoryMap) (laid : IsLaidOut l) where
  -- ---- variables

  home_ends : (i : ℕ) (v : VariablePlace) → slice_get l.variables i ≡ Some v → end_of (home_region v) ≤ program_end
  home_ends i v e =
      let there = slice_get-map home_region l.variables i ∙ ap (option_map home_region) e in
      let a = (in_order_within l.homes.address (map home_region l.variables) (end_of l.homes) i (home_region v) laid.homes there).end in
      let b = (parts_in_fram l laid).homes.end in
      omega arith

  copies_end : (i : ℕ) (v : VariablePlace) → slice_get l.variables i ≡ Some v → (low : ℕ) × (high : ℕ) × (high ≤ program_end)
      × AreInOrder low (copy_regions v) high
  copies_end i v e =
      let r = regions_end copy_regions l.copies.address l.variables (end_of l.copies) i v laid.copies e in
      let a = r.2 in
      let b = (parts_in_fram l laid).copies.end in
      (r.0, r.1, omega arith, r.3)

  versions_end : (i : ℕ) (v : VariablePlace) → slice_get l.variables i ≡ Some v
      → (low : ℕ) × (high : ℕ) × (high ≤ program_end) × AreInOrder low (version_regions v) high
  versions_end i v e =
      let r = regions_end version_regions l.versions.address l.variables (end_of l.versions) i v laid.versions e in
      let a = r.2 in
      let b = (parts_in_fram l laid).versions.end in
      (r.0, r.1, omega arith, r.3)

  -- the first address of a region that ends by a low end
  one_region : (low high a words : ℕ) → high ≤ program_end → AreInOrder low (record { address = a; words = words } ∷ []) high → IsWord a
  one_region low high a words l h = let end = h.1 in omega arith

  place_of_words : (i : ℕ) (v : VariablePlace) → slice_get l.variables i ≡ Some v → PlaceOfWords (Some v)
  place_of_words i (Scalar home copy width) e =
      let a = home_ends i (Scalar home copy width) e in
      let c = copies_end i (Scalar home copy width) e in
      (omega arith, one_region c.0 c.1 copy (scalar_words width) c.2 c.3)
  place_of_words i (Array elements length None) e = let a = home_ends i (Array elements length None) e in (omega arith, omega arith, tt)
  place_of_words i (Array elements length (Some c)) e =
      let a = home_ends i (Array elements length (Some c)) e in
      let b = copies_end i (Array elements length (Some c)) e in
      let d = versions_end i (Array elements length (Some c)) e in
      (omega arith, omega arith, (one_region b.0 b.1 c.copies length b.2 b.3, one_region d.0 d.1 c.versions length d.2 d.3))

  places_of_words : (i : ℕ) (o : Option VariablePlace) → slice_get l.variables i ≡ o → PlaceOfWords o
  places_of_words i None e = tt
  places_of_words i (Some v) e = place_of_words i v e

  home_is_word : (o : Option VariablePlace) → PlaceOfWords o → IsWord (home_in o)
  home_is_word None h = omega arith
  home_is_word (Some (Scalar home copy width)) h = h.0
  home_is_word (Some (Array elements length copies)) h = h.0

  -- ---- private scalars

  private_of_words : (s : PrivateScalar) → HasItsPlace l.variables s → PrivateOfWords s
  private_of_words s h = place_of_words s.number (Scalar s.home s.copy s.width) h.place

  privates_of_words : (privates : List PrivateScalar) → All (HasItsPlace l.variables) privates → AllByRecursion PrivateOfWords privates
  privates_of_words [] h = tt
  privates_of_words (s ∷ more) h =
      (private_of_words s (All-head (HasItsPlace l.variables) s more h), privates_of_words more (All-tail (HasItsPlace l.variables) s more h))

  address_is_word : (privates : List PrivateScalar) (v home : ℕ) → AllByRecursion PrivateOfWords privates → IsWord home
      → IsWord (copy_else (copy_among privates v) home)
  address_is_word [] v home h k = k
  address_is_word (s ∷ more) v home h k = by_test (s.number == v) (address_is_word more v home h.1 k)
    where
      by_test : (b : Bool) → IsWord (copy_else (copy_among more v) home) → IsWord (copy_else (if b then Some s.copy else copy_among more v) home)
      by_test true other = h.0.1
      by_test false other = other

  -- the code of each function that a task reaches is at an address that is a word
  pub routines_of_words : (k : ℕ) (t : TaskPlace) → slice_get l.tasks k ≡ Some t → HasCodeOfWords t.routines
  routines_of_words k t e i r at =
      let task = regions_end code_regions l.code.address l.tasks (end_of l.code) k t laid.code e in
      let there = slice_get-map (λ r. r.code) t.routines i ∙ ap (option_map (λ r. r.code)) at in
      let a = (in_order_within task.0 (code_regions t) task.1 (suc i) r.code task.3 there).end in
      let b = (parts_in_fram l laid).code.end in
      let c = task.2 in
      omega arith

  pub places_are_words : (t : TaskPlace) → All (HasItsPlace l.variables) t.privates
      → HasCodeOfWords t.routines → PlacesOfWords (places_of l t)
  places_are_words t h codes =
      let privates = privates_of_words t.privates h in
      record {
        words = λ w. (words_stand l w laid).is_fram.high;
        list = let a = (parts_in_fram l laid).list.end in omega arith;
        emits = let a = (parts_in_fram l laid).emits.end in omega arith;
        commit = let a = (parts_in_fram l laid).commit.end in omega arith;
        addresses =
            λ v. address_is_word t.privates v (home_of l.variables v) privates
            (home_is_word (slice_get l.variables v) (places_of_words v (slice_get l.variables v) refl));
        places = λ v. places_of_words v (slice_get l.variables v) refl;
        privates = privates;
        routines = codes;
      }
