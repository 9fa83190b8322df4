-- What commit and attempt start need of FRAM, and where the runtime's places stand.
use Rattle.std.specs.Prelude.{◌≡◌, ◌≢◌, true, ℕ, ◌+◌, ◌*◌, ◌%◌, ◌<◌, ◌≤◌, ◌⊎◌, length, All}
use Rattle.memory_map.specs.address_space.Limits.{fram_first, program_end}
use Rattle.memory_map.specs.declared.words.RuntimeWord.{RuntimeWord}
use Rattle.machine_effects.specs.Machine.{IsPlace}
use Rattle.memory_map.specs.declared.words.RuntimeWord.TheVariants.{CurrentTask, NextTask, ListLength, EmitCount, SentBase}
use Rattle.memory_map.specs.Words.{row_words}
use Rattle.memory_map.specs.MemoryMap.{MemoryMap, word_place}
use Rattle.memory_map.specs.event_places.Places.{tail_place, count_place, sent_place, handler_place}
use Rattle.runtime_effects.specs.Places.{CopyPair, entry_bytes, listed}

-- so many bytes from an address on are words of FRAM in front of where a program ends
pub record IsRegion (p bytes : ℕ) : Type 0 where
  pub even : p % 2 ≡ 0
  pub low : fram_first ≤ p
  pub high : p + bytes ≤ program_end

-- the runtime's words and lists stand in FRAM
pub record AreInFram (m : MemoryMap) : Type 0 where
  pub words : (w : RuntimeWord) → IsPlace (word_place m w)
  pub row : m.row + 2 * row_words ≤ program_end  -- in front of the words that count events
  pub list : IsRegion m.list.address (entry_bytes * m.entries)
  pub emits : IsRegion m.emits.address (2 * m.emits.words)
  pub versions : IsRegion m.versions.address (2 * m.versions.words)

-- one of the words that count events, of a program that takes some: behind the end of the program, in front of the handler
pub record IsEventWord (m : MemoryMap) (a : ℕ) : Type 0 where
  pub events : m.runtime.events ≡ true
  pub from : tail_place ≤ a
  pub below : a < handler_place

-- an address outside so many bytes from another on
abbrev pub IsOutOf : ℕ → ℕ → ℕ → Type 0
IsOutOf p bytes a = (a < p) ⊎ (p + bytes ≤ a)

-- a word at which the commit, once it copies, doesn't read: a store there leaves NEXT, EN, SB, SE, the commit list and the emitted words
pub record LeavesCommit (m : MemoryMap) (a : ℕ) : Type 0 where
  pub next_task : a ≢ word_place m NextTask
  pub emit_count : a ≢ word_place m EmitCount
  pub sent_base : a ≢ word_place m SentBase
  pub sent_tail : a ≢ sent_place
  pub list : IsOutOf m.list.address (entry_bytes * m.entries) a
  pub emits : IsOutOf m.emits.address (2 * m.emits.words) a

-- a word to copy home: both are words of FRAM, and the home is none that the commit reads
pub record IsCopied (m : MemoryMap) (x : CopyPair) : Type 0 where
  pub home : IsPlace x.home
  pub copy : IsPlace x.copy
  pub leaves : LeavesCommit m x.home

-- FRAM on which a commit can be made: its entries, the words that they name and its emits are within their capacities, and it copies
-- words of FRAM to words that it doesn't read
pub record CanCommit (m : MemoryMap) (f : ℕ → ℕ) : Type 0 where
  pub list_length : f (word_place m ListLength) ≤ m.entries
  pub words : length (listed m f) ≤ m.entries
  pub emit_count : f (word_place m EmitCount) ≤ m.emits.words
  pub copies : All (IsCopied m) (listed m f)

-- the opening of an attempt leaves CUR
pub record KeepsTask (m : MemoryMap) : Type 0 where
  pub event_count : count_place ≢ word_place m CurrentTask
  pub versions : IsOutOf m.versions.address (2 * m.versions.words) (word_place m CurrentTask)

-- a scalar and its copy are words of FRAM
pub record ArePairWords (x : CopyPair) : Type 0 where
  pub home : IsPlace x.home
  pub copy : IsPlace x.copy
