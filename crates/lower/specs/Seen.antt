-- A memory map as a task sees it: an array that no path of the task writes is read where it stands, so there it has no copies. Under undo no
-- scalar of the task has a copy.
use Rattle.std.specs.Prelude.{ℕ, ◌+◌, Bool, true, false, List, [], ◌∷◌, None}
use Rattle.task_ast.specs.Paths.{CheckedBlock, CheckedFunction}
use Rattle.task_ast.specs.declared.names.Variable.TheVariants.{Shared}
use Rattle.path_sums.specs.Sums.{block_sum, call_sums}
use Rattle.path_sums.specs.Access.{summary}
use Rattle.memory_map.specs.declared.place.VariablePlace.{VariablePlace}
use Rattle.memory_map.specs.declared.place.VariablePlace.TheVariants.{Scalar, Array}
use Rattle.memory_map.specs.declared.runtime.Logging.{Logging}
use Rattle.memory_map.specs.declared.runtime.Logging.TheVariants.{Redo, Undo}
use Rattle.memory_map.specs.MemoryMap.{MemoryMap, TaskPlace}

-- whether some path of a task writes a shared variable, itself or by one of these functions
abbrev pub some_path_writes : List CheckedFunction → CheckedBlock → ℕ → Bool
some_path_writes fs body v = (block_sum (call_sums (summary (Shared v)) fs) (summary (Shared v)) body).writes

-- the place of a variable in a task that writes it, and in one that doesn't
abbrev pub place_seen : Bool → VariablePlace → VariablePlace
place_seen written (Scalar home copy width) = Scalar home copy width
place_seen true (Array elements length copies) = Array elements length copies
place_seen false (Array elements length copies) = Array elements length None

-- the places of the variables from a number on
abbrev pub places_seen : (ℕ → Bool) → ℕ → List VariablePlace → List VariablePlace
places_seen written v [] = []
places_seen written v (x ∷ xs) = place_seen (written v) x ∷ places_seen written (v + 1) xs

-- the memory map as a task with these statements sees it
abbrev pub map_seen : List CheckedFunction → CheckedBlock → MemoryMap → MemoryMap
map_seen fs body m = record m { variables = places_seen (some_path_writes fs body) 0 m.variables }

-- the place of a task as it sees it: under undo it works on its scalars where they stand, so none of them is private
abbrev pub task_seen : Logging → TaskPlace → TaskPlace
task_seen Redo t = t
task_seen Undo t = record t { privates = [] }
