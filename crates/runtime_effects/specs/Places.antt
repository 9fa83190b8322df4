-- The entries of the commit list.
use Rattle.std.specs.Prelude.{ℕ, zero, suc, ◌+◌, List, [], ◌∷◌, ◌++◌}
use Rattle.memory_map.specs.declared.place.PrivateScalar.{PrivateScalar}
use Rattle.memory_map.specs.Places.{scalar_words}
use Rattle.memory_map.specs.MemoryMap.{MemoryMap, word_place}
use Rattle.memory_map.specs.declared.words.RuntimeWord.TheVariants.{ListLength}

-- a shared word, and the copy of it that a task works on: their addresses
pub record CopyPair : Type 0 where
  pub home : ℕ
  pub copy : ℕ

-- so many neighbours from a home on, and their copies from a copy on
abbrev pub run_pairs : ℕ → ℕ → ℕ → List CopyPair
run_pairs zero home copy = []
run_pairs (suc n) home copy = record { home = home; copy = copy } ∷ run_pairs n (home + 2) (copy + 2)

-- a private scalar's words and their copies, the low word of a long first
abbrev pub scalar_pairs : PrivateScalar → List CopyPair
scalar_pairs s = run_pairs (scalar_words s.width) s.home s.copy

-- an entry's length in bytes
abbrev pub entry_bytes : ℕ
entry_bytes = 6

-- what so many entries from an address on name, one run of words behind another: an entry has a run's first home, its first copy, and
-- how many words it has
abbrev pub entries_from : ℕ → ℕ → (ℕ → ℕ) → List CopyPair
entries_from zero p f = []
entries_from (suc n) p f = run_pairs (f (p + 4)) (f p) (f (p + 2)) ++ entries_from n (p + entry_bytes) f

-- the words to copy: what the entries of the commit list name, CLN of them
abbrev pub listed : MemoryMap → (ℕ → ℕ) → List CopyPair
listed m f = entries_from (f (word_place m ListLength)) m.list.address f
