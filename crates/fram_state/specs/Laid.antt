-- Words that are written over others, one behind the other.
use Rattle.std.specs.Prelude.{ℕ, suc, List, [], ◌∷◌, Option, Some, None, slice_set}
use Rattle.image_text.specs.image_map.declared.parts.RingPlaces.{RingPlaces}
use Rattle.image_text.specs.image_map.declared.parts.Variable.{Variable}
use Rattle.image_text.specs.image_map.MapValue.{ring_words}
use Rattle.image_text.specs.ImageValue.{place_of}
use Rattle.fram_state.specs.Runtime.{word_in, words_from}
use Rattle.fram_state.specs.Migrated.{EditionValue, rows_of}

-- words with a row over them, from a place on
abbrev pub with_row : ℕ → List ℕ → List ℕ → List ℕ
with_row place [] words = words
with_row place (w ∷ row) words = with_row (suc place) row (slice_set words place w)

-- words with the rows of variables over them, those of the first variable above all others
abbrev pub with_rows : List Variable → List (List ℕ) → List ℕ → List ℕ
with_rows (v ∷ vs) (row ∷ rows) words = with_row (place_of v.address) row (with_rows vs rows words)
with_rows _ _ words = words

-- words with another one at an address
abbrev pub with_word : List ℕ → ℕ → ℕ → List ℕ
with_word words a w = slice_set words (place_of a) w

-- words with the slots, TAIL and HEAD of an old ring over those of a new one
abbrev pub with_ring : (new old : RingPlaces) → (from : List ℕ) → List ℕ → List ℕ
with_ring new old from words =
    with_word (with_word (with_row (place_of new.slots) (words_from from old.slots ring_words) words) new.tail (word_in from old.tail))
    new.head (word_in from old.head)

-- where both maps have a ring
abbrev pub with_kept_ring : (new old : Option RingPlaces) → (from : List ℕ) → List ℕ → List ℕ
with_kept_ring None old from words = words
with_kept_ring (Some n) None from words = words
with_kept_ring (Some n) (Some o) from words = with_ring n o from words

-- the words of the new image with the rows of its variables, the old ring over them, if it goes on
abbrev pub words_kept : EditionValue → EditionValue → List ℕ
words_kept old new = with_kept_ring new.named.ring old.named.ring old.words (with_rows new.named.variables (rows_of old new) new.words)

-- the words of the new image with all that is kept of the old one, the old BASE, and CUR as the task's number
abbrev pub migrated_words : EditionValue → EditionValue → (task : ℕ) → List ℕ
migrated_words old new task =
    with_word (with_word (words_kept old new) new.named.words.base (word_in old.words old.named.words.base)) new.named.words.current_task task
