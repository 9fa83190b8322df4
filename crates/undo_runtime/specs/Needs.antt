-- What the code needs of FRAM and of where words stand.
use Rattle.std.specs.Prelude.{◌≢◌, ℕ, ◌*◌, ◌<◌, ◌≤◌}
use Rattle.runtime_code.specs.machine_effects.Machine.{IsPlace}
use Rattle.memory_map.specs.declared.words.RuntimeWord.TheVariants.{ListLength, EmitCount, SentBase, Version}
use Rattle.memory_map.specs.MemoryMap.{MemoryMap, word_place}
use Rattle.memory_map.specs.event_places.Places.{count_place}
use Rattle.runtime_code.specs.runtime_effects.Places.{entry_bytes}
use Rattle.runtime_code.specs.runtime_effects.Needs.{IsOutOf}
use Rattle.undo_effects.specs.Entries.{logged, IsLogged}

-- CLN and VER stand outside the list, and CLN outside the version words and what counts events
pub record ListStands (m : MemoryMap) : Type 0 where
  pub length : IsOutOf m.list.address (entry_bytes * m.entries) (word_place m ListLength)
  pub version : IsOutOf m.list.address (entry_bytes * m.entries) (word_place m Version)
  pub versions : IsOutOf m.versions.address (2 * m.versions.words) (word_place m ListLength)
  pub event_count : count_place ≢ word_place m ListLength

-- a word of FRAM that is none of those by which words are logged: not CLN, and outside the list
pub record IsLoggable (m : MemoryMap) (a : ℕ) : Type 0 where
  pub place : IsPlace a
  pub length : a ≢ word_place m ListLength
  pub list : IsOutOf m.list.address (entry_bytes * m.entries) a

-- FRAM on which a recovery can be made: the entries are within the list, and each is of such a word
pub record CanRecover (m : MemoryMap) (f : ℕ → ℕ) : Type 0 where
  pub few : f (word_place m ListLength) ≤ m.entries
  pub each : (a : ℕ) → IsLogged (logged m f) a → IsLoggable m a

-- FRAM on which a commit can be made
pub record CanClose (m : MemoryMap) (f : ℕ → ℕ) : Type 0 where
  pub emit_count : f (word_place m EmitCount) ≤ m.emits.words
  pub sent_base : f (word_place m SentBase) < 0x10000
