-- What the runtime's words of a compiled source hold at most.
use Rattle.std.specs.Prelude.{ℕ, ◌+◌, ◌*◌, ◌<◌, ◌≤◌}
use Rattle.memory_map.specs.declared.words.RuntimeWord.TheVariants.{ListLength, EmitCount, Version}
use Rattle.memory_map.specs.MemoryMap.{MemoryMap, word_place}

-- CLN and EN are within the capacities of the list and of the buffer, and no version word is above VER
pub record KeepsCapacities (l : MemoryMap) (f : ℕ → ℕ) : Type 0 where
  pub list : f (word_place l ListLength) ≤ l.entries
  pub emits : f (word_place l EmitCount) ≤ l.emits.words
  pub versions : (i : ℕ) → i < l.versions.words → f (l.versions.address + 2 * i) ≤ f (word_place l Version)
