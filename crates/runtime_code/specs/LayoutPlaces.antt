-- The private scalars of a memory map, as the runtime copies them.
use Rattle.std.specs.Prelude.{List}
use Rattle.std.specs.List.{flat_map}
use Rattle.runtime_effects.specs.memory_map.MemoryMap.{TaskPlace}
use Rattle.runtime_effects.specs.Places.{CopyPair, scalar_pairs}

-- a task's private scalars, word by word
abbrev pub pairs_of : TaskPlace → List CopyPair
pairs_of t = flat_map scalar_pairs t.privates
