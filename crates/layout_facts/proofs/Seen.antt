-- What a task sees of a memory map stands in the whole map.
use Rattle.layout_facts.proofs.Names.{◌≡◌, ℕ, ◌+◌, ◌*◌, ◌<◌, Some, List, refl, ap, ◌∙◌, slice_get, All-weaker, AreListed}
use Rattle.layout_facts.proofs.Names.{some_path_writes, places_seen, map_seen}
use Rattle.layout_facts.proofs.Names.{SeenFrom, scalar, array, read, seen_from, CheckedBlock, CheckedFunction, ArrayCopies, ScalarWidth, VariablePlace}
use Rattle.layout_facts.proofs.Names.{Scalar, Array, MemoryMap}
use Rattle.layout_facts.proofs.Names.{TaskPlace, home_region, places_of, Element, IsCopied, IsWordOf}

module _ (fs : List CheckedFunction) (body : CheckedBlock) (l : MemoryMap) where
  -- a word of a variable is the same word
  pub word_of_seen : (v i a : ℕ) → IsWordOf (map_seen fs body l) v i a → IsWordOf l v i a
  word_of_seen v i a w = by w.place (seen_from (some_path_writes fs body) l.variables v w.place w.at) w.below w.address
    where
      by : (place : VariablePlace) → SeenFrom l.variables v (some_path_writes fs body v) place → i < (home_region place).words
          → a ≡ 2 * i + (home_region place).address → IsWordOf l v i a
      by _ (scalar home copy width at) b e = record { place = Scalar home copy width; at = at; below = b; address = e }
      by _ (array elements n copies at written) b e = record { place = Array elements n copies; at = at; below = b; address = e }
      by _ (read elements n copies at unwritten) b e = record { place = Array elements n copies; at = at; below = b; address = e }

  -- what has copies there is an array that the task writes
  pub copied_seen : (v elements n : ℕ) (c : ArrayCopies) → slice_get (places_seen (some_path_writes fs body) 0 l.variables) v ≡ Some (Array elements n (Some c))
      → slice_get l.variables v ≡ Some (Array elements n (Some c))
  copied_seen v elements n c e = by (Array elements n (Some c)) refl (seen_from (some_path_writes fs body) l.variables v (Array elements n (Some c)) e)
    where
      by : (place : VariablePlace) → place ≡ Array elements n (Some c) → SeenFrom l.variables v (some_path_writes fs body v) place
          → slice_get l.variables v ≡ Some (Array elements n (Some c))
      by _ is (scalar home copy width at) = absurd (cc is)
      by _ is (array a m copies at written) = at ∙ ap (λ x. Some x) is
      by _ is (read a m copies at unwritten) = absurd (cc is)

  -- a scalar there is one in the whole map
  pub scalar_of_seen : (v home copy : ℕ) (width : ScalarWidth)
      → slice_get (places_seen (some_path_writes fs body) 0 l.variables) v ≡ Some (Scalar home copy width)
      → slice_get l.variables v ≡ Some (Scalar home copy width)
  scalar_of_seen v home copy width e = by (Scalar home copy width) refl (seen_from (some_path_writes fs body) l.variables v (Scalar home copy width) e)
    where
      by : (place : VariablePlace) → place ≡ Scalar home copy width → SeenFrom l.variables v (some_path_writes fs body v) place
          → slice_get l.variables v ≡ Some (Scalar home copy width)
      by _ is (scalar h c w at) = at ∙ ap (λ x. Some x) is
      by _ is (array a m copies at written) = absurd (cc is)
      by _ is (read a m copies at unwritten) = absurd (cc is)

  pub is_copied : (layout : TaskPlace) (x : Element) → IsCopied (places_of (map_seen fs body l) layout) x → IsCopied (places_of l layout) x
  is_copied layout x m = record {
    elements = m.elements;
    length = m.length;
    copies = m.copies;
    is_array = record { place = copied_seen x.array m.elements m.length m.copies m.is_array.place };
    below = m.below;
  }

  -- elements that are listed there are listed in the whole map
  pub listed_seen : (layout : TaskPlace) (xs : List Element) → AreListed (places_of (map_seen fs body l) layout) xs → AreListed (places_of l layout) xs
  listed_seen layout xs listed = record {
    copied = All-weaker (IsCopied (places_of (map_seen fs body l) layout)) (IsCopied (places_of l layout)) (is_copied layout) xs listed.copied;
    different = listed.different;
  }
