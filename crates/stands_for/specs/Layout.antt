-- Where the words of a compiled program are, and what a state of its source is there.
use Rattle.std.specs.Prelude.{◌≡◌, ℕ, ◌%◌, ◌<◌, ◌≤◌, ◌⊎◌, Bool, false, List, [], ◌∷◌}
use Rattle.memory_map.specs.MemoryMap.{MemoryMap}
use Rattle.memory_map.specs.Places.{end_of}
use Rattle.runtime_effects.specs.Places.{CopyPair}

-- the memory map of a program, and what each task may do there
pub record ProgramPlaces : Type 0 where
  pub map : MemoryMap
  pub tasks : ℕ  -- how many tasks there are
  pub list_capacity : ℕ → ℕ  -- how many words a task may list to be copied
  pub emit_capacity : ℕ → ℕ  -- how many words it may emit
  pub written_in_place : ℕ → ℕ → Bool  -- whether a task writes the scalar at this address in place

-- a state of a source by the addresses of its shared words
pub record StateView (St : Type 0) : Type 0 where
  pub word : St → ℕ → ℕ  -- the shared word at an address
  pub task : St → ℕ  -- the number of the current task
  pub emitted : St → List ℕ  -- the words emitted so far
  pub is_state : St → Bool  -- whether it is a state of the source: it has the source's variables, and holds words

-- the address of a shared word
pub record IsSharedWord (l : ProgramPlaces) (a : ℕ) : Type 0 where
  pub even : a % 2 ≡ 0
  pub from : l.map.homes.address ≤ a
  pub below : a < end_of l.map.homes

-- the address of a copy
pub record IsCopyWord (l : ProgramPlaces) (a : ℕ) : Type 0 where
  pub even : a % 2 ≡ 0
  pub from : l.map.copies.address ≤ a
  pub below : a < end_of l.map.copies

-- one of these pairs
abbrev pub IsAmong : List CopyPair → CopyPair → Type 0
IsAmong [] p = ⊥
IsAmong (q ∷ qs) p = (p ≡ q) ⊎ IsAmong qs p

-- each task's list and emits have room, and no task emits more than 256 words
pub record HaveRoom (l : ProgramPlaces) : Type 0 where
  pub list : (t : ℕ) → t < l.tasks → l.list_capacity t ≤ l.map.entries
  pub emits : (t : ℕ) → t < l.tasks → l.emit_capacity t ≤ l.map.emits.words
  pub few_emits : l.map.emits.words ≤ 256

-- a task's private scalars: shared words that it doesn't write in place, and copies, each of its own
abbrev pub ArePrivate : ProgramPlaces → ℕ → List CopyPair → Type 0
ArePrivate l t [] = Unit {0}
ArePrivate l t (p ∷ ps) = IsSharedWord l p.home × (l.written_in_place t p.home ≡ false) × IsCopyWord l p.copy
    × ((q : CopyPair) → IsAmong ps q → p.copy ≡ q.copy → ⊥) × ArePrivate l t ps
