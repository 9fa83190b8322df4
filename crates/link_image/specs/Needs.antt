-- What an image is made from: an accepted source with its plan and its layout.
use Rattle.std.specs.Prelude.{◌≡◌, ◌+◌, ◌*◌, ◌<◌, ◌≤◌, ℕ, List, [], ◌∷◌, All, length, Some, slice_get}
use Rattle.cost_bound.specs.declared.allowance.Allow.{Allow}
use Rattle.source_values.specs.Runs.{CheckedProgram}
use Rattle.memory_map.specs.MemoryMap.{MemoryMap, TaskPlace}
use Rattle.memory_map.specs.Places.{end_of, IsLaidOut}
use Rattle.memory_map.specs.Spots.{routine_among}
use Rattle.memory_map.specs.declared.place.RoutinePlace.{RoutinePlace}
use Rattle.array_versions.specs.Program.{Program}
use Rattle.array_versions.specs.TaskPrograms.{TaskPrograms}
use Rattle.array_versions.specs.Form.{LocalsBelow, OfWords}
use Rattle.array_versions.specs.Cost.{words_of}
use Rattle.lower.specs.Lowered.{lowered, bare_programs}
use Rattle.linked_code.specs.Linked.{bytes_of_boot, bytes_of_commit, code_parts, CodeFits, StartsFit}
use Rattle.linked_code.specs.Parts.{PartsInOrder}
use Rattle.source_maps.specs.Names.{HasNames}
use Rattle.source_maps.specs.Laws.{IsSourceMap}

-- a program whose code has so few words that they have numbers of 16 bits as bytes, too
abbrev pub IsShort : Program → Type 0
IsShort p = words_of p ≤ 0x7FFF

-- a program whose locals stand in registers and in RAM
abbrev pub HasFewLocals : Program → Type 0
HasFewLocals p = LocalsBelow 1016 p

-- the programs of a task are such
pub record TaskHasFewLocals (p : TaskPrograms) : Type 0 where
  pub own : HasFewLocals p.own
  pub routines : All HasFewLocals p.routines

-- code can be made of the programs of a task, and there is one for each function that it reaches
pub record TaskIsEmitted (t : TaskPlace) (p : TaskPrograms) : Type 0 where
  pub count : length t.routines ≡ length p.routines
  pub short : IsShort p.own
  pub shorts : All IsShort p.routines
  pub locals : TaskHasFewLocals p

abbrev pub TasksAreEmitted : List TaskPlace → List TaskPrograms → Type 0
TasksAreEmitted [] ps = Unit {0}
TasksAreEmitted (t ∷ ts) [] = Unit {0}
TasksAreEmitted (t ∷ ts) (p ∷ ps) = TaskIsEmitted t p × TasksAreEmitted ts ps

-- the parts of code stand in order in their places, and behind them there is room for an instruction
pub record HasPlaces (l : MemoryMap) (programs : List TaskPrograms) : Type 0 where
  pub rules : IsLaidOut l
  pub boot : bytes_of_boot l.runtime.logging l ≤ 2 * l.boot.words
  pub commit : bytes_of_commit l.runtime.logging l.runtime.events ≤ 2 * l.commit.words
  pub starts : StartsFit l.runtime.logging l
  pub order : PartsInOrder l.boot.address (code_parts l programs) (end_of l.code)
  pub high : end_of l.code + 6 ≤ 0x10000

-- a task has one place for each function that it reaches
abbrev pub HasOwnPlaces : TaskPlace → Type 0
HasOwnPlaces t = (j : ℕ) (r : RoutinePlace) → slice_get t.routines j ≡ Some r → routine_among t.routines r.function ≡ Some r

-- its code has room, code can be made of its programs, its names can be a map's, and it has a task
pub record IsReadyToLink (text : List ℕ) (p : CheckedProgram) (allow : Allow) (l : MemoryMap) : Type 0 where
  pub fits : CodeFits l (lowered l p)
  pub own : All HasOwnPlaces l.tasks
  pub emitted : TasksAreEmitted l.tasks (bare_programs l p)
  pub of_words : All (λ q. OfWords q.own) (lowered l p)
  pub same_tasks : length l.tasks ≡ length p.tasks
  pub same_variables : length l.variables ≡ length p.shared
  pub names : HasNames text p
  pub source_map : IsSourceMap text p allow l
  pub some_task : 0 < length p.tasks
