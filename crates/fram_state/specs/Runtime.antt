-- What the words of a FRAM hold.
use Rattle.std.specs.Prelude.{ℕ, ◌+◌, ◌-◌, ◌%◌, List, take, drop, slice_index}
use Rattle.image_text.specs.image_map.declared.parts.RuntimeWords.{RuntimeWords}
use Rattle.image_text.specs.image_map.declared.parts.RingPlaces.{RingPlaces}
use Rattle.image_text.specs.ImageValue.{place_of}
use Rattle.fram_state.specs.declared.runtime.Runtime.{Runtime}
use Rattle.fram_state.specs.declared.runtime.Ring.{Ring}

-- the word at an address
abbrev pub word_in : List ℕ → ℕ → ℕ
word_in words a = slice_index words (place_of a)

-- so many words from an address on, as far as the FRAM goes
abbrev pub words_from : List ℕ → ℕ → ℕ → List ℕ
words_from words a n = take n (drop (place_of a) words)

-- what the words of the runtime hold
abbrev pub runtime_of : RuntimeWords → List ℕ → Runtime
runtime_of w words = record {
  current_task = word_in words w.current_task;
  next_task = word_in words w.next_task;
  gate = word_in words w.gate;
  list_length = word_in words w.list_length;
  emit_count = word_in words w.emit_count;
  base = word_in words w.base;
  sent_base = word_in words w.sent_base;
  version = word_in words w.version;
}

-- what waits in a ring, from TAIL up to HEAD, and what of that a commit takes, up to SE: the indexes count on modulo 65536
abbrev pub ring_of : RingPlaces → List ℕ → Ring
ring_of places words = record {
  waiting = (word_in words places.head + 65536 - word_in words places.tail) % 65536;
  taken = (word_in words places.sent_tail + 65536 - word_in words places.tail) % 65536;
}
