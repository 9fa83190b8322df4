-- What the functions of a task cost, as its calls of them do.
use Rattle.std.specs.Prelude.{◌≡◌, ◌≤◌, ℕ, List, [], ◌∷◌, Option, Some, None, get_or, map, slice_get, take}
use Rattle.array_versions.specs.Program.{Program}
use Rattle.array_versions.specs.TaskPrograms.{TaskPrograms, no_programs}
use Rattle.array_versions.specs.Cost.{words_of}
use Rattle.array_versions.specs.Form.{LocalsBelow}
use Rattle.source_values.specs.Runs.{CheckedProgram}
use Rattle.memory_map.specs.declared.place.RoutinePlace.{RoutinePlace}
use Rattle.memory_map.specs.MemoryMap.{MemoryMap, TaskPlace}
use Rattle.lower.specs.Lowered.{lowered, bare_programs}
use Rattle.code_paths.specs.Paths.{capped}
use Rattle.code_costs.specs.Dearest.{block_most}
use Rattle.dearest_ways.specs.declared.calls.CallCost.{CallCost}
use Rattle.dearest_ways.specs.Calls.{CallsCost}
use Rattle.dearest_ways.specs.Ways.{bare}

-- the cycles of functions on the dearest ways through their bodies, by their places in a task
abbrev pub routine_costs : List RoutinePlace → List Program → List CallCost
routine_costs [] bodies = []
routine_costs (r ∷ rs) [] = []
routine_costs (r ∷ rs) (b ∷ bodies) = record { entry = r.code.address; cycles = capped (block_most [] b 0) } ∷ routine_costs rs bodies

-- ---- a task by its number

-- the places of the functions that it reaches
abbrev pub routines_of : Option TaskPlace → List RoutinePlace
routines_of None = []
routines_of (Some t) = t.routines

abbrev pub own_routines : MemoryMap → ℕ → List RoutinePlace
own_routines l k = routines_of (slice_get l.tasks k)

-- its programs, with the bodies of functions in their calls
abbrev pub task_programs : CheckedProgram → MemoryMap → ℕ → TaskPrograms
task_programs p l k = get_or (lowered l p) k no_programs

-- and as they are made, without them
abbrev pub made_programs : CheckedProgram → MemoryMap → ℕ → TaskPrograms
made_programs p l k = get_or (bare_programs l p) k no_programs

-- what its calls cost
abbrev pub task_calls : CheckedProgram → MemoryMap → ℕ → List CallCost
task_calls p l k = routine_costs (own_routines l k) (task_programs p l k).routines

-- ---- as it is computed

-- a program of so few words and locals that its code is made
abbrev pub IsShort : Program → Type 0
IsShort p = (words_of p ≤ 0x7FFF) × LocalsBelow 1016 p

-- the bodies of functions at these places, as they are made and with what they call, of which each calls functions in front of it
pub record AreBodies (rs : List RoutinePlace) (made bodies : List Program) : Type 0 where
  pub made_of : map bare bodies ≡ made
  pub in_front : (i : ℕ) (body : Program) → slice_get bodies i ≡ Some body → CallsCost (take i (routine_costs rs bodies)) body
