-- The words that a map names: those that runs of a compiled image store to. All others are code, constants and the vector.
use Rattle.std.specs.Prelude.{ℕ, ◌*◌, ◌||◌, Bool, false, List, [], ◌∷◌, Option, Some, None, option_map, find}
use Rattle.std.specs.List.{list_any}
use Rattle.image_text.specs.image_map.declared.parts.RuntimeWords.{RuntimeWords}
use Rattle.image_text.specs.image_map.declared.parts.Place.{Place}
use Rattle.image_text.specs.image_map.declared.parts.RingPlaces.{RingPlaces}
use Rattle.image_text.specs.image_map.declared.parts.Variable.{Variable}
use Rattle.image_text.specs.image_map.MapValue.{MapValue, ring_words, word_count}
use Rattle.fram_state.specs.declared.stretch.Stretch.{Stretch}
use Rattle.fram_state.specs.Stretch.{words_at, holds, is_held, held_until}

-- the words of a place that has a word for an item
abbrev pub place_words : Place → Stretch
place_words p = words_at p.address p.capacity

-- the words of the commit list, three for an entry
abbrev pub list_words : Place → Stretch
list_words p = words_at p.address (3 * p.capacity)

-- the words of the private copies; none where the map doesn't say where they are
abbrev pub copies_words : Option Place → Stretch
copies_words None = words_at 0 0
copies_words (Some p) = place_words p

-- list, emits, versions and copies
abbrev pub buffers : MapValue → List Stretch
buffers m = list_words m.list ∷ place_words m.emits ∷ place_words m.versions ∷ copies_words m.copies ∷ []

-- the eight words of the runtime
abbrev pub runtime_words : RuntimeWords → List Stretch
runtime_words w = words_at w.current_task 1 ∷ words_at w.next_task 1 ∷ words_at w.gate 1 ∷ words_at w.list_length 1 ∷
    words_at w.emit_count 1 ∷ words_at w.base 1 ∷ words_at w.sent_base 1 ∷ words_at w.version 1 ∷ []

-- the words of a ring: the five single ones, and its slots
abbrev pub ring_parts : RingPlaces → List Stretch
ring_parts r = words_at r.head 1 ∷ words_at r.tail 1 ∷ words_at r.event_count 1 ∷ words_at r.sent_tail 1 ∷ words_at r.answer 1 ∷
    words_at r.slots ring_words ∷ []

-- whether a ring, if there is one, has the word at an address
abbrev pub is_in_ring : Option RingPlaces → ℕ → Bool
is_in_ring None a = false
is_in_ring (Some r) a = is_held (ring_parts r) a

-- the end of its first part that has it
abbrev pub ring_until : Option RingPlaces → ℕ → Option ℕ
ring_until None a = None
ring_until (Some r) a = held_until (ring_parts r) a

-- the word of a scalar, the two of a long, or those of an array
abbrev pub variable_words : Variable → Stretch
variable_words v = words_at v.address (word_count v.value_type v.length)

-- whether one of these variables has the word at an address
abbrev pub is_shared : List Variable → ℕ → Bool
is_shared vs a = list_any (λ v. holds (variable_words v) a) vs

-- the end of the first variable that has the word at an address
abbrev pub shared_until : List Variable → ℕ → Option ℕ
shared_until vs a = option_map (λ v. (variable_words v).to) (find (λ v. holds (variable_words v) a) vs)

-- whether a map names the word at an address
abbrev pub is_named : MapValue → ℕ → Bool
is_named m a = is_held (runtime_words m.words) a || (is_held (buffers m) a || (is_in_ring m.ring a || is_shared m.variables a))
