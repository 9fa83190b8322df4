-- What the rules of layouts say of the runtime.
use Rattle.std.specs.Prelude.{ℕ, ◌<◌, ◌≤◌, All}
use Rattle.runtime_effects.specs.memory_map.MemoryMap.{MemoryMap}
use Rattle.runtime_effects.specs.memory_map.Places.{end_of, IsLaidOut}
use Rattle.runtime_effects.specs.Needs.{AreInFram, LeavesCommit, KeepsTask, ArePairWords}
use Rattle.runtime_code.specs.LayoutPlaces.{pairs_of}

-- the runtime's words and lists stand in FRAM
abbrev pub PlacesAreInFram : Type 0
PlacesAreInFram = (l : MemoryMap) → IsLaidOut l → AreInFram l

-- the opening of an attempt leaves CUR
abbrev pub OpeningKeepsTask : Type 0
OpeningKeepsTask = (l : MemoryMap) → IsLaidOut l → KeepsTask l

-- shared words are none of those that a commit reads
abbrev pub HomesLeaveCommit : Type 0
HomesLeaveCommit = (l : MemoryMap) (a : ℕ) → IsLaidOut l → l.homes.address ≤ a → a < end_of l.homes → LeavesCommit l a

-- private scalars and their copies are words of FRAM
abbrev pub PrivatesAreWords : Type 0
PrivatesAreWords = (l : MemoryMap) → IsLaidOut l → All (λ t. All ArePairWords (pairs_of t)) l.tasks
