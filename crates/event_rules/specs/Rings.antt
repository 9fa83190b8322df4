-- The rule of the ring, and what stands in it.
use Rattle.std.specs.Prelude.{◌≡◌, ℕ, ◌+◌, ◌%◌, ◌<◌, ◌≤◌, List, length, slice_index}
use Rattle.msp_step.specs.alp_words.Words.{word_difference}
use Rattle.event_places.specs.Places.{head_place, tail_place, sent_place, ring_slots, slot_place}

-- HEAD is at most as many words ahead of TAIL as there are slots; and where GATE, at this address, is 1, SE isn't ahead of HEAD
pub record KeepsRing (gate : ℕ) (fram : ℕ → ℕ) : Type 0 where
  pub head : word_difference (fram head_place) (fram tail_place) ≤ ring_slots
  pub sent : fram gate ≡ 1 → word_difference (fram sent_place) (fram tail_place) ≤ word_difference (fram head_place) (fram tail_place)

-- HEAD counts the accepted words behind what it was at first, and each of the last 63 of them stands in its slot: the slot behind them may
-- have the next word already, which a handler stored that power was lost in
pub record HoldsLast (first : ℕ) (fram : ℕ → ℕ) (words : List ℕ) : Type 0 where
  pub head : fram head_place ≡ (first + length words) % 0x10000
  pub slots : (j : ℕ) → j < length words → length words ≤ j + 63 → fram (slot_place (first + j)) ≡ slice_index words j
