-- A memory map as a task sees it keeps the rules of memory maps, and what stands there stands in the whole map at the same address.
use Rattle.lower.proofs.Names.{◌≡◌, ℕ, zero, suc, ◌+◌, Bool, true, false, List, [], ◌∷◌, ◌++◌, length, map, Option, Some, None, refl, sym, ap, ◌∙◌, subst}
use Rattle.lower.proofs.Names.{arith, inl, inr, ◌⊎◌, ⊎_elim, option_map, flat_map, All-weaker, Region, ArrayCopies, ScalarWidth, VariablePlace, Scalar, Array}
use Rattle.lower.proofs.Names.{PrivateScalar, MemoryMap, TaskPlace, end_of, AreInOrder, home_region, copy_regions, version_regions, HasItsPlace}
use Rattle.lower.proofs.Names.{IsLaidOut, in_order_append, place_seen, places_seen, task_seen, Logging, Redo, Undo, private_words, ◌≤◌, All-nil}
use Rattle.std.proofs.Common.{slice_get}
use Rattle.std.specs.Prelude.{All}

-- the place of a variable of a number
pub place_at : (written : ℕ → Bool) (k : ℕ) (xs : List VariablePlace) (v : ℕ)
    → slice_get (places_seen written k xs) v ≡ option_map (place_seen (written (k + v))) (slice_get xs v)
place_at written k [] v = refl
place_at written k (x ∷ xs) zero = let same : k ≡ k + 0 = omega arith in ap (λ n. Some (place_seen (written n) x)) same
place_at written k (x ∷ xs) (suc v) =
    let same : k + 1 + v ≡ k + suc v = omega arith in
    place_at written (k + 1) xs v ∙ ap (λ n. option_map (place_seen (written n)) (slice_get xs v)) same

pub places_count : (written : ℕ → Bool) (k : ℕ) (xs : List VariablePlace) → length (places_seen written k xs) ≡ length xs
places_count written k [] = refl
places_count written k (x ∷ xs) = ap suc (places_count written (k + 1) xs)

-- ---- in order

-- without the first regions
without_first : (from : ℕ) (rs more : List Region) (end : ℕ) → AreInOrder from (rs ++ more) end → AreInOrder from more end
without_first from [] more end h = h
without_first from (r ∷ rs) more end h =
    let b = h.0 in in_order_append from [] (end_of r) more end (omega (arith, b)) (without_first (end_of r) rs more end h.1)

-- with others behind the first ones
others_behind : (from : ℕ) (rs more others : List Region) (end : ℕ) → AreInOrder from (rs ++ more) end
    → ((from : ℕ) → AreInOrder from more end → AreInOrder from others end) → AreInOrder from (rs ++ others) end
others_behind from [] more others end h k = k from h
others_behind from (r ∷ rs) more others end h k = (h.0, others_behind (end_of r) rs more others end h.1 k)

-- a place that is seen has the same regions or none
abbrev SameOrNone : (VariablePlace → List Region) → Bool → VariablePlace → Type 0
SameOrNone regions written x = (regions (place_seen written x) ≡ regions x) ⊎ (regions (place_seen written x) ≡ [])

-- so those that are seen stay in order
seen_in_order : (regions : VariablePlace → List Region) → ((b : Bool) (x : VariablePlace) → SameOrNone regions b x)
    → (written : ℕ → Bool) (k : ℕ) (xs : List VariablePlace) (from end : ℕ) → AreInOrder from (flat_map regions xs) end
    → AreInOrder from (flat_map regions (places_seen written k xs)) end
seen_in_order regions seen written k [] from end h = h
seen_in_order regions seen written k (x ∷ xs) from end h =
    let rest = flat_map regions xs in
    let later = flat_map regions (places_seen written (k + 1) xs) in
    let In : List Region → Type 0 = λ rs. AreInOrder from (rs ++ later) end in
    let next : (from : ℕ) → AreInOrder from rest end → AreInOrder from later end = λ from h. seen_in_order regions seen written (k + 1) xs from end h in
    ⊎_elim (λ e. subst In (sym e) (others_behind from (regions x) rest later end h next))
    (λ e. subst In (sym e) (next from (without_first from (regions x) rest end h))) (seen (written k) x)

copies_seen : (b : Bool) (x : VariablePlace) → SameOrNone copy_regions b x
copies_seen b (Scalar home copy width) = inl refl
copies_seen true (Array elements length copies) = inl refl
copies_seen false (Array elements length copies) = inr refl

versions_seen : (b : Bool) (x : VariablePlace) → SameOrNone version_regions b x
versions_seen b (Scalar home copy width) = inl refl
versions_seen true (Array elements length copies) = inl refl
versions_seen false (Array elements length copies) = inr refl

home_seen : (b : Bool) (x : VariablePlace) → home_region (place_seen b x) ≡ home_region x
home_seen b (Scalar home copy width) = refl
home_seen true (Array elements length copies) = refl
home_seen false (Array elements length copies) = refl

homes_same : (written : ℕ → Bool) (k : ℕ) (xs : List VariablePlace) → map home_region (places_seen written k xs) ≡ map home_region xs
homes_same written k [] = refl
homes_same written k (x ∷ xs) = λ j. home_seen (written k) x j ∷ homes_same written (k + 1) xs j

-- ---- one place

place_of : (written : ℕ → Bool) (xs : List VariablePlace) (v : ℕ) (x : VariablePlace) (b : Bool) → slice_get xs v ≡ Some x → written v ≡ b
    → slice_get (places_seen written 0 xs) v ≡ Some (place_seen b x)
place_of written xs v x b e w =
    let same : 0 + v ≡ v = omega arith in
    place_at written 0 xs v ∙ ap (λ n. option_map (place_seen (written n)) (slice_get xs v)) same ∙ (λ j. option_map (place_seen (w j)) (e j))

-- a scalar's place is the same
pub scalar_seen : (written : ℕ → Bool) (xs : List VariablePlace) (v home copy : ℕ) (width : ScalarWidth)
    → slice_get xs v ≡ Some (Scalar home copy width)
    → slice_get (places_seen written 0 xs) v ≡ Some (Scalar home copy width)
scalar_seen written xs v home copy width e = place_of written xs v (Scalar home copy width) (written v) e refl

-- an array has its elements, and its copies where it is written
pub array_seen : (written : ℕ → Bool) (xs : List VariablePlace) (v elements length : ℕ) (copies : Option ArrayCopies)
    → slice_get xs v ≡ Some (Array elements length copies) → written v ≡ true
    → slice_get (places_seen written 0 xs) v ≡ Some (Array elements length copies)
array_seen written xs v elements length copies e w = place_of written xs v (Array elements length copies) true e w

pub array_read : (written : ℕ → Bool) (xs : List VariablePlace) (v elements length : ℕ) (copies : Option ArrayCopies)
    → slice_get xs v ≡ Some (Array elements length copies) → written v ≡ false
    → slice_get (places_seen written 0 xs) v ≡ Some (Array elements length None)
array_read written xs v elements length copies e w = place_of written xs v (Array elements length copies) false e w

-- what a seen place is of
pub data SeenFrom (xs : List VariablePlace) (v : ℕ) (written : Bool) : VariablePlace → Type 0 where
  scalar : (home copy : ℕ) (width : ScalarWidth) → slice_get xs v ≡ Some (Scalar home copy width) → SeenFrom xs v written (Scalar home copy width)
  array : (elements length : ℕ) (copies : Option ArrayCopies) → slice_get xs v ≡ Some (Array elements length copies) → written ≡ true
      → SeenFrom xs v written (Array elements length copies)
  read : (elements length : ℕ) (copies : Option ArrayCopies) → slice_get xs v ≡ Some (Array elements length copies) → written ≡ false
      → SeenFrom xs v written (Array elements length None)

pub seen_from : (written : ℕ → Bool) (xs : List VariablePlace) (v : ℕ) (place : VariablePlace) → slice_get (places_seen written 0 xs) v ≡ Some place
    → SeenFrom xs v (written v) place
seen_from written xs v place e =
    by (slice_get xs v) refl (written v) refl (sym (place_at written 0 xs v ∙ ap (λ n. option_map (place_seen (written n)) (slice_get xs v)) same) ∙ e)
  where
    same : 0 + v ≡ v
    same = omega arith

    by_place : (x : VariablePlace) (b : Bool) → slice_get xs v ≡ Some x → written v ≡ b → place_seen b x ≡ place → SeenFrom xs v (written v) place
    by_place (Scalar home copy width) b at w is = subst (SeenFrom xs v (written v)) is (scalar home copy width at)
    by_place (Array elements length copies) true at w is = subst (SeenFrom xs v (written v)) is (array elements length copies at w)
    by_place (Array elements length copies) false at w is = subst (SeenFrom xs v (written v)) is (read elements length copies at w)

    by : (o : Option VariablePlace) → slice_get xs v ≡ o → (b : Bool) → written v ≡ b → option_map (place_seen (written v)) (slice_get xs v) ≡ Some place
        → SeenFrom xs v (written v) place
    by None at b w h = let none : None ≡ Some place = sym (ap (option_map (place_seen (written v))) at) ∙ h in absurd (cc)
    by (Some x) at b w h =
        let found : Some (place_seen b x) ≡ Some place = sym (ap (λ c. option_map (place_seen c) (Some x)) w)
        ∙ sym (ap (option_map (place_seen (written v))) at) ∙ h in
        let is : place_seen b x ≡ place = cc in
        by_place x b at w is

-- ---- the map

private_seen : (written : ℕ → Bool) (xs : List VariablePlace) (s : PrivateScalar) → HasItsPlace xs s → HasItsPlace (places_seen written 0 xs) s
private_seen written xs s h = record { place = scalar_seen written xs s.number s.home s.copy s.width h.place }

pub privates_seen : (written : ℕ → Bool) (xs : List VariablePlace) (privates : List PrivateScalar) → All (HasItsPlace xs) privates
    → All (HasItsPlace (places_seen written 0 xs)) privates
privates_seen written xs privates h = All-weaker (HasItsPlace xs) (HasItsPlace (places_seen written 0 xs)) (private_seen written xs) privates h

-- it keeps the rules of memory maps
pub seen_laid_out : (written : ℕ → Bool) (m : MemoryMap) → IsLaidOut m → IsLaidOut (record m { variables = places_seen written 0 m.variables })
seen_laid_out written m h = record {
  chain = h.chain;
  list = h.list;
  homes = subst (λ rs. AreInOrder m.homes.address rs (end_of m.homes)) (sym (homes_same written 0 m.variables)) h.homes;
  copies = seen_in_order copy_regions copies_seen written 0 m.variables m.copies.address (end_of m.copies) h.copies;
  versions = seen_in_order version_regions versions_seen written 0 m.variables m.versions.address (end_of m.versions) h.versions;
  code = h.code;
  privates = All-weaker (λ t. All (HasItsPlace m.variables) t.privates) (λ t. All (HasItsPlace (places_seen written 0 m.variables)) t.privates)
      (λ (t : TaskPlace) k. privates_seen written m.variables t.privates k) m.tasks h.privates;
}

-- ---- a task's private scalars

-- under redo its place is as it is
pub redo_seen : (logging : Logging) (t : TaskPlace) → logging ≡ Redo → task_seen logging t ≡ t
redo_seen Redo t e = refl
redo_seen Undo t e = absurd (cc e)

-- the number of its first local and its functions are as they are
pub first_seen : (logging : Logging) (t : TaskPlace) → (task_seen logging t).first ≡ t.first
first_seen Redo t = refl
first_seen Undo t = refl

pub routines_seen : (logging : Logging) (t : TaskPlace) → (task_seen logging t).routines ≡ t.routines
routines_seen Redo t = refl
routines_seen Undo t = refl

-- no more of them are seen
pub seen_words : (logging : Logging) (t : TaskPlace) → private_words (task_seen logging t).privates ≤ private_words t.privates
seen_words Redo t = omega arith
seen_words Undo t = omega arith

pub seen_count : (logging : Logging) (t : TaskPlace) → length (task_seen logging t).privates ≤ length t.privates
seen_count Redo t = omega arith
seen_count Undo t = omega arith

-- and what holds of each holds of those that are seen
pub seen_all : (P : PrivateScalar → Type 0) (logging : Logging) (t : TaskPlace) → All P t.privates → All P (task_seen logging t).privates
seen_all P Redo t h = h
seen_all P Undo t h = All-nil P
