-- One more variable gets its place.
use Rattle.std.proofs.Common.{◌≡◌, ℕ, zero, suc, ◌+◌, ◌*◌, ◌%◌, ◌<◌, ◌≤◌, Bool, true, false, List, [], ◌∷◌, ◌++◌, length, drop, map, get_or, refl, sym, ◌∙◌}
use Rattle.std.proofs.Common.{ap, subst, arith, Some, None}
use Rattle.std.proofs.Math.Seq.{drop-length}
use Rattle.std.specs.Prelude.{slice_get, slice_index_or}
use Rattle.std.specs.List.{flat_map}
use Rattle.std.proofs.lemmas.List.{length_push, map-append}
use Rattle.std.proofs.lemmas.List.Concat.{flat_map-append}
use Rattle.std.proofs.lemmas.Option.{get_or_from_slice_get}
use Rattle.task_ast.specs.declared.Extent.{Extent}
use Rattle.task_ast.specs.declared.Extent.TheVariants as extent
use Rattle.task_ast.specs.declared.SharedDeclaration.{SharedDeclaration}
use Rattle.cost_bound.specs.Allowance.{shared_sum_from, version_part}
use Rattle.memory_map.specs.address_space.Limits.{program_end}
use Rattle.memory_map.specs.declared.place.VariablePlace.{VariablePlace}
use Rattle.privatise.specs.declared.variables.Free.{Free}
use Rattle.memory_map.specs.Places.{home_region, copy_regions, version_regions, AreInOrder}
use Rattle.privatise.specs.Sizes.{home_part, home_words, copy_part}
use Rattle.privatise.specs.Layouts.{IsPlaceOf}
use Rattle.privatise.specs.Placing.{place_at, copy_sum, version_sum, IsRoom, ArePlaced}
use Rattle.memory_map.proofs.Interface.{in_order_append, in_order_higher}
use Rattle.privatise.proofs.Sums.{sum_step}

-- what holds of each element, and of one more
pub each_push : {A : Type 0} (P : ℕ → A → Type 0) (xs : List A) (y : A) → ((k : ℕ) (x : A) → slice_get xs k ≡ Some x → P k x) → P (length xs) y
    → (k : ℕ) (x : A) → slice_get (xs ++ y ∷ []) k ≡ Some x → P k x
each_push P [] y each new zero x e = let same : y ≡ x = cc in subst (P 0) same new
each_push P [] y each new (suc k) x e = let no : None ≡ Some x = e in cc
each_push P (z ∷ zs) y each new zero x e = each zero x e
each_push P (z ∷ zs) y each new (suc k) x e = each_push (λ n. P (suc n)) zs y (λ k x h. each (suc k) x h) new k x e

pub kind_at : (written : Bool) (e : Extent) (free : Free) → IsPlaceOf written e (place_at written e free)
kind_at written (extent.Scalar _) free = refl
kind_at written (extent.Long _) free = refl
kind_at true (extent.Array n) free = (refl, refl)
kind_at false (extent.Array n) free = (refl, refl)

home_placed : (written : Bool) (e : Extent) (free : Free) (end : ℕ) → free.home % 2 ≡ 0 → end ≡ free.home + 2 * home_part e
    → AreInOrder free.home (home_region (place_at written e free) ∷ []) end
home_placed written (extent.Scalar _) free end even h = (record { from = omega arith; even = even }, omega (arith, h))
home_placed written (extent.Long _) free end even h = (record { from = omega arith; even = even }, omega (arith, h))
home_placed written (extent.Array n) free end even h = (record { from = omega arith; even = even }, omega (arith, h))

copies_placed : (written : Bool) (e : Extent) (free : Free) (end : ℕ) → free.copy % 2 ≡ 0 → end ≡ free.copy + 2 * copy_part written e
    → AreInOrder free.copy (copy_regions (place_at written e free)) end
copies_placed written (extent.Scalar _) free end even h = (record { from = omega arith; even = even }, omega (arith, h))
copies_placed written (extent.Long _) free end even h = (record { from = omega arith; even = even }, omega (arith, h))
copies_placed true (extent.Array n) free end even h = (record { from = omega arith; even = even }, omega (arith, h))
copies_placed false (extent.Array n) free end even h = omega (arith, h)

versions_placed : (written : Bool) (e : Extent) (free : Free) (end : ℕ) → free.version % 2 ≡ 0 → end ≡ free.version + 2 * version_part written e
    → AreInOrder free.version (version_regions (place_at written e free)) end
versions_placed written (extent.Scalar _) free end even h = omega (arith, h)
versions_placed written (extent.Long _) free end even h = omega (arith, h)
versions_placed true (extent.Array n) free end even h = (record { from = omega arith; even = even }, omega (arith, h))
versions_placed false (extent.Array n) free end even h = omega (arith, h)

pub even_behind : (a n b : ℕ) → a % 2 ≡ 0 → b ≡ a + 2 * n → b % 2 ≡ 0
even_behind a n b e h = omega (arith, e, h)

-- the places of the first variables, and the addresses for the next
pub record PlacedBelow (shared : List SharedDeclaration) (written : List Bool) (free : Free) (i : ℕ) (next : Free) (places : List VariablePlace) : Type 0 where
  pub count : length places ≡ i
  pub each : (k : ℕ) (place : VariablePlace) → slice_get places k ≡ Some place → (d : SharedDeclaration) → slice_get shared k ≡ Some d
      → (at : Free) × (place ≡ place_at (slice_index_or written k false) d.extent at)
  pub homes : AreInOrder free.home (map home_region places) next.home
  pub copies : AreInOrder free.copy (flat_map copy_regions places) next.copy
  pub versions : AreInOrder free.version (flat_map version_regions places) next.version
  pub home : next.home + 2 * shared_sum_from (λ k e. home_part e) i (drop i shared) ≡ free.home + 2 * home_words shared
  pub copy : next.copy + 2 * shared_sum_from (λ k e. copy_part (slice_index_or written k false) e) i (drop i shared) ≡ free.copy + 2 * copy_sum written shared
  pub version : next.version + 2 * shared_sum_from (λ k e. version_part (slice_index_or written k false) e) i (drop i shared)
      ≡ free.version + 2 * version_sum written shared
  pub even_home : next.home % 2 ≡ 0
  pub even_copy : next.copy % 2 ≡ 0
  pub even_version : next.version % 2 ≡ 0

pub none_placed : (shared : List SharedDeclaration) (written : List Bool) (free : Free) → IsRoom shared written free → PlacedBelow shared written free 0 free []
none_placed shared written free room = record {
  count = refl;
  each = λ k place e. let no : None ≡ Some place = e in cc;
  homes = omega arith;
  copies = omega arith;
  versions = omega arith;
  home = refl;
  copy = refl;
  version = refl;
  even_home = room.even_home;
  even_copy = room.even_copy;
  even_version = room.even_version;
}

-- the next variable fits
pub record HasRoom (extent : Extent) (mark : Bool) (next : Free) : Type 0 where
  pub home : next.home + 2 * home_part extent < 65536
  pub copy : next.copy + 2 * copy_part mark extent < 65536
  pub version : next.version + 2 * version_part mark extent < 65536

module _ (shared : List SharedDeclaration) (written : List Bool) (free : Free) (i : ℕ) (extent : Extent) (mark : Bool) (next : Free)
    (l : i < length shared) (at : (d : SharedDeclaration) → extent ≡ (get_or shared i d).extent) (marked : mark ≡ slice_index_or written i false) where
  home_step : shared_sum_from (λ k e. home_part e) i (drop i shared) ≡ home_part extent + shared_sum_from (λ k e. home_part e) (i + 1) (drop (i + 1) shared)
  home_step = sum_step (λ k e. home_part e) shared i extent l at

  copy_step : shared_sum_from (λ k e. copy_part (slice_index_or written k false) e) i (drop i shared)
      ≡ copy_part mark extent + shared_sum_from (λ k e. copy_part (slice_index_or written k false) e) (i + 1) (drop (i + 1) shared)
  copy_step = sum_step (λ k e. copy_part (slice_index_or written k false) e) shared i extent l at
      ∙ ap (λ m. copy_part m extent + shared_sum_from (λ k e. copy_part (slice_index_or written k false) e) (i + 1) (drop (i + 1) shared)) (sym marked)

  version_step : shared_sum_from (λ k e. version_part (slice_index_or written k false) e) i (drop i shared)
      ≡ version_part mark extent + shared_sum_from (λ k e. version_part (slice_index_or written k false) e) (i + 1) (drop (i + 1) shared)
  version_step = sum_step (λ k e. version_part (slice_index_or written k false) e) shared i extent l at
      ∙ ap (λ m. version_part m extent + shared_sum_from (λ k e. version_part (slice_index_or written k false) e) (i + 1) (drop (i + 1) shared)) (sym marked)

  fits : (next part rest all : ℕ) → next + 2 * (part + rest) ≡ all → all ≤ program_end → next + 2 * part < 65536
  fits next part rest all h k = omega (arith, h, k)

  pub room_for : (place : VariablePlace) → place ≡ place_at mark extent next → (places : List VariablePlace) → IsRoom shared written free
      → PlacedBelow shared written free i next places → HasRoom extent mark next
  room_for place is places room h = record {
    home = fits next.home (home_part extent) _ _ (ap (λ s. next.home + 2 * s) (sym home_step) ∙ h.home) room.home;
    copy = fits next.copy (copy_part mark extent) _ _ (ap (λ s. next.copy + 2 * s) (sym copy_step) ∙ h.copy) room.copy;
    version = fits next.version (version_part mark extent) _ _ (ap (λ s. next.version + 2 * s) (sym version_step) ∙ h.version) room.version;
  }

  on : (next later part rest all : ℕ) → later ≡ next + 2 * part → next + 2 * (part + rest) ≡ all → later + 2 * rest ≡ all
  on next later part rest all e h = omega (arith, e, h)

  pub one_placed : (later : Free) (place : VariablePlace) (xs ys : List VariablePlace) → place ≡ place_at mark extent next
      → later.home ≡ next.home + 2 * home_part extent → later.copy ≡ next.copy + 2 * copy_part mark extent
      → later.version ≡ next.version + 2 * version_part mark extent → ys ≡ xs ++ place ∷ [] → PlacedBelow shared written free i next xs
      → PlacedBelow shared written free (i + 1) later ys
  one_placed later place xs ys is home copy version e h = subst (λ zs. PlacedBelow shared written free (i + 1) later zs) (sym e) (record {
    count = length_push xs place ∙ ap (λ k. k + 1) h.count;
    each = each_push (λ k x. (d : SharedDeclaration) → slice_get shared k ≡ Some d
        → (at : Free) × (x ≡ place_at (slice_index_or written k false) d.extent at)) xs place h.each (λ d found. kind d found);
    homes = subst (λ rs. AreInOrder free.home rs later.home) (sym (map-append home_region xs (place ∷ [])))
        (in_order_append free.home (map home_region xs) next.home (home_region place ∷ []) later.home h.homes
        (subst (λ p. AreInOrder next.home (home_region p ∷ []) later.home) (sym is) (home_placed mark extent next later.home h.even_home home)));
    copies = subst (λ rs. AreInOrder free.copy rs later.copy) (sym (flat_map-append copy_regions xs (place ∷ [])))
        (in_order_append free.copy (flat_map copy_regions xs) next.copy (copy_regions place ++ []) later.copy h.copies
        (in_order_append next.copy (copy_regions place) later.copy [] later.copy
        (subst (λ p. AreInOrder next.copy (copy_regions p) later.copy) (sym is) (copies_placed mark extent next later.copy h.even_copy copy)) (omega arith)));
    versions = subst (λ rs. AreInOrder free.version rs later.version) (sym (flat_map-append version_regions xs (place ∷ [])))
        (in_order_append free.version (flat_map version_regions xs) next.version (version_regions place ++ []) later.version h.versions
        (in_order_append next.version (version_regions place) later.version [] later.version
        (subst (λ p. AreInOrder next.version (version_regions p) later.version) (sym is)
        (versions_placed mark extent next later.version h.even_version version)) (omega arith)));
    home = on next.home later.home (home_part extent) _ _ home (ap (λ s. next.home + 2 * s) (sym home_step) ∙ h.home);
    copy = on next.copy later.copy (copy_part mark extent) _ _ copy (ap (λ s. next.copy + 2 * s) (sym copy_step) ∙ h.copy);
    version = on next.version later.version (version_part mark extent) _ _ version (ap (λ s. next.version + 2 * s) (sym version_step) ∙ h.version);
    even_home = even_behind next.home (home_part extent) later.home h.even_home home;
    even_copy = even_behind next.copy (copy_part mark extent) later.copy h.even_copy copy;
    even_version = even_behind next.version (version_part mark extent) later.version h.even_version version;
  })
    where
      kind : (d : SharedDeclaration) → slice_get shared (length xs) ≡ Some d
          → (at : Free) × (place ≡ place_at (slice_index_or written (length xs) false) d.extent at)
      kind d found =
          let there : slice_get shared i ≡ Some d = ap (λ k. slice_get shared k) (sym h.count) ∙ found in
          let same : extent ≡ d.extent = at d ∙ ap (λ x. x.extent) (get_or_from_slice_get shared i d d there) in
          let mark_is : mark ≡ slice_index_or written (length xs) false = marked ∙ ap (λ k. slice_index_or written k false) (sym h.count) in
          (next, is ∙ ap (λ x. place_at mark x next) same ∙ ap (λ m. place_at m d.extent next) mark_is)

over : (next rest all : ℕ) → rest ≡ 0 → next + 2 * rest ≡ all → next ≤ all
over next rest all e h = omega (arith, e, h)

none_left : (part : ℕ → Extent → ℕ) (shared : List SharedDeclaration) (i : ℕ) → i ≡ length shared → shared_sum_from part i (drop i shared) ≡ 0
none_left part shared i e = subst (λ k. shared_sum_from part i (drop k shared) ≡ 0) (sym e) (ap (λ ds. shared_sum_from part i ds) (drop-length shared))

pub all_placed : (shared : List SharedDeclaration) (written : List Bool) (free : Free) (i : ℕ) (next : Free) (places : List VariablePlace) → i ≡ length shared
    → PlacedBelow shared written free i next places → ArePlaced shared written free places
all_placed shared written free i next places e h = record {
  count = h.count ∙ e;
  each = λ k d place f g. h.each k place g d f;
  homes = in_order_higher free.home (map home_region places) next.home _ (over next.home _ _ (none_left (λ k e. home_part e) shared i e) h.home) h.homes;
  copies = in_order_higher free.copy (flat_map copy_regions places) next.copy _
      (over next.copy _ _ (none_left (λ k e. copy_part (slice_index_or written k false) e) shared i e) h.copy) h.copies;
  versions = in_order_higher free.version (flat_map version_regions places) next.version _
      (over next.version _ _ (none_left (λ k e. version_part (slice_index_or written k false) e) shared i e) h.version) h.versions;
}
