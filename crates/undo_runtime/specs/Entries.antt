-- The tasks of a layout as the boot comes to them.
use Rattle.std.specs.Prelude.{ℕ, zero, suc, ◌+◌, ◌≤◌, List, [], ◌∷◌, map}
use Rattle.std.specs.List.{flat_map}
use Rattle.memory_map.specs.declared.place.PrivateScalar.{PrivateScalar}
use Rattle.memory_map.specs.Places.{scalar_words}
use Rattle.memory_map.specs.Spots.{private_words}
use Rattle.memory_map.specs.MemoryMap.{MemoryMap, TaskPlace}
use Rattle.undo_runtime.specs.Listing.{LoggedTask}

-- so many words from an address on
abbrev pub words_from : ℕ → ℕ → List ℕ
words_from zero a = []
words_from (suc n) a = a ∷ words_from n (a + 2)

-- the words of a private scalar, the low word of a long first
abbrev pub home_words : PrivateScalar → List ℕ
home_words s = words_from (scalar_words s.width) s.home

-- those of all of them
abbrev pub homes_in : List PrivateScalar → List ℕ
homes_in privates = flat_map home_words privates

-- a task, by the words of its private scalars and its code's place
abbrev pub task_of : TaskPlace → LoggedTask
task_of t = record { privates = homes_in t.privates; code = t.code.address }

-- all tasks, in order of declaration
abbrev pub logged_tasks : MemoryMap → List LoggedTask
logged_tasks l = map task_of l.tasks

-- the list has room for the words of a task's private scalars
pub record FitsList (m : MemoryMap) (t : TaskPlace) : Type 0 where
  pub few : private_words t.privates ≤ m.entries
