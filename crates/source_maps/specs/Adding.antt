-- Variables, tasks and private scalars that are added to a map one behind the other.
use Rattle.std.specs.Prelude.{◌≡◌, ℕ, true, List, [], ◌∷◌, Some, None}
use Rattle.image_map.specs.declared.parts.Variable.{Variable}
use Rattle.image_map.specs.MapValue.{MapValue, TaskValue, takes_variable, with_variable, takes_task, with_task, takes_private, with_private}
use Rattle.cost_bound.specs.declared.allowance.Allow.{Allow}
use Rattle.source_report.specs.source_values.Runs.{CheckedProgram}
use Rattle.memory_map.specs.MemoryMap.{MemoryMap}
use Rattle.source_maps.specs.Maps.{map_words, map_list, map_buffer, map_copies, map_ring, variables_of, tasks_of}

-- the map of a layout and an allowance, without variables and tasks
abbrev pub bare_map : MemoryMap → Allow → MapValue
bare_map l allow = record {
  bound = allow.cycles;
  words = map_words l;
  list = map_list l;
  emits = map_buffer l.emits;
  versions = map_buffer l.versions;
  copies = Some (map_copies l);
  ring = map_ring l;
  variables = [];
  tasks = [];
}

-- a map with these variables behind its own
abbrev pub with_variables : MapValue → List Variable → MapValue
with_variables m [] = m
with_variables m (v ∷ vs) = with_variables (with_variable m v) vs

-- each of them may be the next one
abbrev pub TakesVariables : MapValue → List Variable → Type 0
TakesVariables m [] = Unit {0}
TakesVariables m (v ∷ vs) = (takes_variable m v ≡ true) × TakesVariables (with_variable m v) vs

-- its last task with these private scalars behind its own
abbrev pub with_privates : MapValue → List (List ℕ) → MapValue
with_privates m [] = m
with_privates m (n ∷ ns) = with_privates (with_private m n) ns

-- each of them may be the next one
abbrev pub TakesPrivates : MapValue → List (List ℕ) → Type 0
TakesPrivates m [] = Unit {0}
TakesPrivates m (n ∷ ns) = (takes_private m n ≡ true) × TakesPrivates (with_private m n) ns

-- a task with its private scalars
abbrev pub with_whole_task : MapValue → TaskValue → MapValue
with_whole_task m t = with_privates (with_task m t.name) t.privates

-- a map with these tasks behind its own
abbrev pub with_tasks : MapValue → List TaskValue → MapValue
with_tasks m [] = m
with_tasks m (t ∷ ts) = with_tasks (with_whole_task m t) ts

-- each of them may be the next one, with its private scalars
abbrev pub TakesTasks : MapValue → List TaskValue → Type 0
TakesTasks m [] = Unit {0}
TakesTasks m (t ∷ ts) = (takes_task m t.name ≡ true) × TakesPrivates (with_task m t.name) t.privates × TakesTasks (with_whole_task m t) ts

-- the map with the variables of a source
abbrev pub map_with_variables : List ℕ → CheckedProgram → MemoryMap → Allow → MapValue
map_with_variables text p l allow = with_variables (bare_map l allow) (variables_of text p.shared l.variables)

-- all that is said of a source may be added
pub record TakesSource (text : List ℕ) (p : CheckedProgram) (l : MemoryMap) (allow : Allow) : Type 0 where
  pub variables : TakesVariables (bare_map l allow) (variables_of text p.shared l.variables)
  pub tasks : TakesTasks (map_with_variables text p l allow) (tasks_of text p.shared p.tasks l.tasks)
