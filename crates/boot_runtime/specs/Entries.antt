-- The tasks of a layout as the boot comes to them.
use Rattle.std.specs.Prelude.{◌+◌, ◌*◌, ◌≤◌, List, map}
use Rattle.memory_map.specs.declared.place.PrivateScalar.{PrivateScalar}
use Rattle.memory_map.specs.Places.{scalar_words}
use Rattle.memory_map.specs.MemoryMap.{MemoryMap, TaskPlace}
use Rattle.runtime_code.specs.LayoutPlaces.{pairs_of}
use Rattle.boot_runtime.specs.Listing.{TaskEntry}

-- a task, by its private scalars and its code's place
abbrev pub entry_of : TaskPlace → TaskEntry
entry_of t = record { privates = pairs_of t; code = t.code.address }

-- all tasks, in order of declaration
abbrev pub task_entries : MemoryMap → List TaskEntry
task_entries l = map entry_of l.tasks

-- a private scalar's words and their copies end within the memory
pub record EndsInMemory (s : PrivateScalar) : Type 0 where
  pub home : s.home + 2 * scalar_words s.width ≤ 65536
  pub copy : s.copy + 2 * scalar_words s.width ≤ 65536
