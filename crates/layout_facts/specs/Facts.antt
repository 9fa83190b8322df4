-- The words of a source's variables, by number and by index.
use Rattle.std.specs.Prelude.{◌≡◌, ℕ, List, Some, slice_get}
use Rattle.cost_bound.specs.Summaries.{summaries}
use Rattle.cost_bound.specs.declared.allowance.Allow.{Allow}
use Rattle.cost_bound.specs.Counts.{emits_of}
use Rattle.cost_bound.specs.Allowance.{CheckedProgram, CheckedTask, IsAllowed, list_of}
use Rattle.war_analysis.specs.PlanValue.{TaskPlanValue}
use Rattle.war_analysis.specs.Plans.{IsPlan}
use Rattle.memory_map.specs.declared.runtime.Logging.{Logging}
use Rattle.memory_map.specs.MemoryMap.{MemoryMap, TaskPlace}
use Rattle.privatise.specs.Layouts.{IsLayoutFor}
use Rattle.linked_code.specs.Rooms.{PrivatesAreCounted}
use Rattle.path_sums.specs.Known.{EachReturns}
use Rattle.memory_map.specs.Spots.{Places, places_of}
use Rattle.lower.specs.Seen.{map_seen}
use Rattle.lower.specs.Spots.{Room}

-- a source costs no more than it may, and has this plan and this layout for some runtime; no task's private scalars have more words than its
-- allowance counts; and each of its functions comes to a return
pub record HasLayout (p : CheckedProgram) (allow : Allow) (plans : List TaskPlanValue) (l : MemoryMap) : Type 0 where
  pub allowed : IsAllowed p allow
  pub plan : IsPlan p plans
  pub logging : Logging
  pub layout : IsLayoutFor logging p allow plans l
  pub few : PrivatesAreCounted p l
  pub returning : EachReturns p.functions

-- a task by its number, with its layout
pub record IsTaskAt (p : CheckedProgram) (l : MemoryMap) (t : ℕ) (task : CheckedTask) (layout : TaskPlace) : Type 0 where
  pub is_task : slice_get p.tasks t ≡ Some task
  pub is_layout : slice_get l.tasks t ≡ Some layout

-- the room that a task has by its own counts
abbrev pub task_room : CheckedProgram → CheckedTask → Room
task_room p task = record { emits = emits_of (summaries p) task.body; list = list_of (summaries p) p.shared task.body }

-- the places that a task works on: the memory map as it sees it, and its private scalars
abbrev pub task_places : CheckedProgram → MemoryMap → CheckedTask → TaskPlace → Places
task_places p l task layout = places_of (map_seen p.functions task.body l) layout
