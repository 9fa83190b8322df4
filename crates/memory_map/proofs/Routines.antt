-- What a function's code works on in a task: the task's words, whatever locals it has.
use Rattle.std.proofs.Common.{◌≡◌, ℕ, ◌+◌, ◌%◌, ◌≤◌, refl, sym, subst, ◌∙◌, arith, List, [], ◌∷◌}
use Rattle.std.specs.Prelude.{map}
use Rattle.std.specs.List.{flat_map}
use Rattle.memory_map.specs.declared.place.Region.{Region}
use Rattle.memory_map.specs.declared.place.RoutinePlace.{RoutinePlace}
use Rattle.memory_map.specs.MemoryMap.{TaskPlace}
use Rattle.memory_map.specs.Places.{AreInOrder, code_regions, end_of}
use Rattle.memory_map.specs.Spots.{Places, routine_places, Element, IsElement, IsCopied, Spot, scalar, element, copy, version, IsSpot, spot_address}
use Rattle.memory_map.specs.Spots.{SpotStands, SpotsStand}
use Rattle.memory_map.proofs.InOrder.{in_order_split, in_order_lower, in_order_end}

-- ---- code

-- the tasks' own code stands in order
pub codes_in_order : (from : ℕ) (ts : List TaskPlace) (end : ℕ) → AreInOrder from (flat_map code_regions ts) end → AreInOrder from (map (λ t. t.code) ts) end
codes_in_order from [] end h = h
codes_in_order from (t ∷ ts) end (here, rest) =
    let s = in_order_split (end_of t.code) (map (λ r. r.code) t.routines) (flat_map code_regions ts) end rest in
    let high = in_order_end (end_of t.code) (map (λ r. r.code) t.routines) s.0 s.1 in
    (here, in_order_lower (end_of t.code) s.0 (map (λ t. t.code) ts) end high (codes_in_order s.0 ts end s.2))

-- ---- words

module _ (p : Places) (r : RoutinePlace) where
  pub same_element : (x : Element) → IsElement (routine_places p r) x → IsElement p x
  same_element x k = record {
    elements = k.elements;
    length = k.length;
    copies = k.copies;
    is_array = record { place = k.is_array.place };
    below = k.below;
  }

  pub same_copied : (x : Element) → IsCopied (routine_places p r) x → IsCopied p x
  same_copied x k = record {
    elements = k.elements;
    length = k.length;
    copies = k.copies;
    is_array = record { place = k.is_array.place };
    below = k.below;
  }

  pub same_spot : (s : Spot) → IsSpot (routine_places p r) s → IsSpot p s
  same_spot (scalar v i) k = k
  same_spot (element x) k = same_element x k
  same_spot (copy x) k = same_copied x k
  same_spot (version x) k = same_copied x k

  pub same_address : (s : Spot) → spot_address (routine_places p r) s ≡ spot_address p s
  same_address (scalar v i) = refl
  same_address (element x) = refl
  same_address (copy x) = refl
  same_address (version x) = refl

  spot_stands : (s : Spot) → SpotStands p s → SpotStands (routine_places p r) s
  spot_stands s k =
      let e = same_address s in
      let even = k.even in
      let from = k.from in
      let end = k.end in
      record { even = subst (λ a. a % 2 ≡ 0) (sym e) even; from = subst (λ a. p.map.versions.address ≤ a) (sym e) from; end = omega (arith, e, end) }

  -- they stand apart for the function as for the task
  pub same_spots : SpotsStand p → SpotsStand (routine_places p r)
  same_spots h = record {
    each = λ s k. spot_stands s (h.each s (same_spot s k));
    distinct = λ s t k m e. h.distinct s t (same_spot s k) (same_spot t m) (sym (same_address s) ∙ e ∙ same_address t);
  }
