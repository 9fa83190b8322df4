-- Single words over others, and a ring that goes on over that of a new edition, address by address.
use Rattle.std.proofs.Common.{◌≡◌, ◌<◌, ◌≤◌, ◌+◌, ◌⊎◌, inl, inr, ◌∙◌, ℕ, Bool, true, false, cond, List, length, take, drop, Option, Some, None, refl, sym, ap}
use Rattle.std.proofs.Common.{arith, true≢false}
use Rattle.std.specs.Prelude.{◌-◌, ◌*◌, ◌==◌, slice_index, unwrap_or, IfSome, nat_le, nat_lt}
use Rattle.std.proofs.lemmas.Bool.{cases_lt, leb-true, ltb-true, le-leb, lt-ltb, eqb-true, eqb-false, and_parts, and_from}
use Rattle.std.proofs.lemmas.List.{length-set, length-drop, length-take-le, get_or-take, get_or-drop, get_or-set_same, get_or-set_other}
use Rattle.image_text.specs.image_map.declared.parts.RingPlaces.{RingPlaces}
use Rattle.image_text.specs.image_map.MapValue.{IsFramWord, IsRing}
use Rattle.image_text.specs.ImageValue.{place_of}
use Rattle.fram_state.specs.Stretch.{words_at, holds}
use Rattle.fram_state.specs.Runtime.{word_in, words_from}
use Rattle.fram_state.specs.Migrated.{ring_word, kept_ring_word}
use Rattle.fram_state.specs.Laid.{with_row, with_word, with_ring, with_kept_ring}
use Rattle.fram_state.proofs.Rows.{row_long, row_out, row_in, words_end}

-- ---- a word at an address

place_apart : (a b : ℕ) → IsFramWord a → IsFramWord b → (a ≡ b → ⊥) → place_of a ≡ place_of b → ⊥
place_apart a b x y differ e = differ (omega (arith, x.low, x.even, y.low, y.even, e))

pub word_put : (words : List ℕ) (x w a : ℕ) → length words ≡ 24064 → IsFramWord x → IsFramWord a
    → word_in (with_word words x w) a ≡ cond (a == x) w (word_in words a)
word_put words x w a all is_x is_a = by_same (a == x) refl
  where
    by_same : (b : Bool) → (a == x) ≡ b → word_in (with_word words x w) a ≡ cond b w (word_in words a)
    by_same true e =
        let same : a ≡ x = eqb-true a x e in
        let inside : place_of x < length words = omega (arith, is_x.low, is_x.high, is_x.even) in
        ap (λ k. slice_index (with_word words x w) (place_of k)) same ∙ get_or-set_same words (place_of x) w 0 inside
    by_same false e = get_or-set_other words (place_of x) (place_of a) w 0 (place_apart a x is_a is_x (eqb-false a x e))

pub word_long : (words : List ℕ) (x w : ℕ) → length words ≡ 24064 → length (with_word words x w) ≡ 24064
word_long words x w all = length-set words (place_of x) w ∙ all

-- ---- the slots of a ring

slots_end : (r : RingPlaces) → IsRing r → place_of r.slots + 64 ≤ 24064
slots_end r is = words_end r.slots 64 is.slots.low is.slots.even is.fits

slots_long : (r : RingPlaces) (words : List ℕ) → IsRing r → length words ≡ 24064 → length (words_from words r.slots 64) ≡ 64
slots_long r words is all =
    let ends = slots_end r is in
    let behind : length (drop (place_of r.slots) words) ≡ length words - place_of r.slots = length-drop (place_of r.slots) words in
    length-take-le 64 (drop (place_of r.slots) words) (omega arith)

-- the slots of an old ring fit where those of the new one stand
pub slots_fit : (new old : RingPlaces) (from : List ℕ) → IsRing new → IsRing old → length from ≡ 24064
    → place_of new.slots + length (words_from from old.slots 64) ≤ 24064
slots_fit new old from is was all = let ends = slots_end new is in let long = slots_long old from was all in omega arith

-- a word of the slots, by its number
slot_at : (words : List ℕ) (place k : ℕ) → k < 64 → slice_index (take 64 (drop place words)) k ≡ slice_index words (place + k)
slot_at words place k h = get_or-take 64 (drop place words) k 0 h ∙ get_or-drop place words k 0

-- ---- what goes on

-- the word of what is there, or else another
found_or : (b : Bool) (w : ℕ) (o : Option ℕ) (d : ℕ) → cond b w (unwrap_or o d) ≡ unwrap_or (cond b (Some w) o) d
found_or true w o d = refl
found_or false w o d = refl

module _ (new old : RingPlaces) (from : List ℕ) (is_new : IsRing new) (is_old : IsRing old) (all_from : length from ≡ 24064) where
  abbrev slots : List ℕ
  slots = words_from from old.slots 64

  long : length slots ≡ 64
  long = slots_long old from is_old all_from

  abbrev new_slots : ℕ → Bool
  new_slots a = holds (words_at new.slots 64) a

  -- the word that a slot goes on with
  abbrev old_slot : ℕ → ℕ
  old_slot a = word_in from (old.slots + (a - new.slots))

  -- a word that no slot has lies in front of them or behind
  outside : (a : ℕ) → IsFramWord a → new_slots a ≡ false → (place_of a < place_of new.slots) ⊎ (place_of new.slots + length slots ≤ place_of a)
  outside a is h = by_order (cases_lt a new.slots) (cases_lt a (new.slots + 2 * 64))
    where
      by_order : (a < new.slots) ⊎ (new.slots ≤ a) → (a < new.slots + 2 * 64) ⊎ (new.slots + 2 * 64 ≤ a)
          → (place_of a < place_of new.slots) ⊎ (place_of new.slots + length slots ≤ place_of a)
      by_order (inl less) end = inl (omega (arith, less, is_new.slots.low, is_new.slots.even, is.low, is.even))
      by_order (inr low) (inr high) = inr (omega (arith, long, high, is_new.slots.low, is_new.slots.even, is.low, is.even))
      by_order (inr low) (inl high) =
          let held = and_from (nat_le new.slots a) (nat_lt a (new.slots + 2 * 64)) (le-leb new.slots a low) (lt-ltb a (new.slots + 2 * 64) high) in
          absurd (true≢false (sym held ∙ h))

  slots_put : (words : List ℕ) (a : ℕ) → length words ≡ 24064 → IsFramWord a
      → word_in (with_row (place_of new.slots) slots words) a ≡ unwrap_or (cond (new_slots a) (Some (old_slot a)) None) (word_in words a)
  slots_put words a all is = by_held (new_slots a) refl
    where
      by_held : (b : Bool) → new_slots a ≡ b
          → word_in (with_row (place_of new.slots) slots words) a ≡ unwrap_or (cond b (Some (old_slot a)) None) (word_in words a)
      by_held true h =
          let both = and_parts (nat_le new.slots a) (nat_lt a (new.slots + 2 * 64)) h in
          let low : new.slots ≤ a = leb-true new.slots a both.0 in
          let high : a < new.slots + 2 * 64 = ltb-true a (new.slots + 2 * 64) both.1 in
          let ends = slots_end new is_new in
          let number : ℕ = place_of a - place_of new.slots in
          let below : number < 64 = omega (arith, low, high, is_new.slots.low, is_new.slots.even, is.low, is.even) in
          let there : place_of old.slots + number ≡ place_of (old.slots + (a - new.slots)) =
          omega (arith, low, is_new.slots.low, is_new.slots.even, is_old.slots.low, is_old.slots.even, is.low, is.even) in
          row_in slots words (place_of new.slots) (place_of a) (omega (arith, long, all, ends)) (omega (arith, low))
          (omega (arith, long, high, is_new.slots.low, is_new.slots.even, is.low, is.even))
          ∙ slot_at from (place_of old.slots) number below ∙ ap (slice_index from) there
      by_held false h = row_out slots words (place_of new.slots) (place_of a) (outside a is h)

  ring_long : (words : List ℕ) → length words ≡ 24064 → length (with_ring new old from words) ≡ 24064
  ring_long words all =
      let row = row_long slots words (place_of new.slots) ∙ all in
      let tail = word_long (with_row (place_of new.slots) slots words) new.tail (word_in from old.tail) row in
      word_long (with_word (with_row (place_of new.slots) slots words) new.tail (word_in from old.tail)) new.head (word_in from old.head) tail

  ring_put : (words : List ℕ) (a : ℕ) → length words ≡ 24064 → IsFramWord a
      → word_in (with_ring new old from words) a ≡ unwrap_or (ring_word new old from a) (word_in words a)
  ring_put words a all is =
      let head : ℕ = word_in from old.head in
      let tail : ℕ = word_in from old.tail in
      let row : List ℕ = with_row (place_of new.slots) slots words in
      let row_all : length row ≡ 24064 = row_long slots words (place_of new.slots) ∙ all in
      let slot : Option ℕ = cond (new_slots a) (Some (old_slot a)) None in
      word_put (with_word row new.tail tail) new.head head a (word_long row new.tail tail row_all) is_new.head is
      ∙ ap (cond (a == new.head) head) (word_put row new.tail tail a row_all is_new.tail is
      ∙ ap (cond (a == new.tail) tail) (slots_put words a all is)
      ∙ found_or (a == new.tail) tail slot (word_in words a))
      ∙ found_or (a == new.head) head (cond (a == new.tail) (Some tail) slot) (word_in words a)

-- the ring goes on where both are there
pub kept_ring_long : (new old : Option RingPlaces) (from words : List ℕ) → IfSome new IsRing → IfSome old IsRing → length from ≡ 24064 → length words ≡ 24064
    → length (with_kept_ring new old from words) ≡ 24064
kept_ring_long None old from words is was all_from all = all
kept_ring_long (Some n) None from words is was all_from all = all
kept_ring_long (Some n) (Some o) from words is was all_from all = ring_long n o from is was all_from words all

pub kept_ring_put : (new old : Option RingPlaces) (from words : List ℕ) (a : ℕ) → IfSome new IsRing → IfSome old IsRing → length from ≡ 24064
    → length words ≡ 24064 → IsFramWord a
    → word_in (with_kept_ring new old from words) a ≡ unwrap_or (kept_ring_word new old from a) (word_in words a)
kept_ring_put None old from words a is was all_from all word = refl
kept_ring_put (Some n) None from words a is was all_from all word = refl
kept_ring_put (Some n) (Some o) from words a is was all_from all word = ring_put n o from is was all_from words a all word
