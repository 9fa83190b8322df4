-- What each task of a source needs of a charge, as its lines tell it.
use Rattle.std.specs.Prelude.{◌≡◌, ℕ, suc, ◌+◌, ◌-◌, ◌<◌, min, true, false, List, [], ◌∷◌, length, drop, get_or}
use Rattle.cost_bound.specs.declared.allowance.Allow.{Allow}
use Rattle.cost_bound.specs.Summaries.{summaries}
use Rattle.cost_bound.specs.Allowance.{CheckedTask, task_words}
use Rattle.source_values.specs.Runs.{CheckedProgram}
use Rattle.source_report.specs.SourceReport.{spelled}
use Rattle.war_analysis.specs.PlanValue.{TaskPlanValue}
use Rattle.war_analysis.specs.Plans.{IsPlan}
use Rattle.memory_map.specs.declared.place.PrivateScalar.{PrivateScalar}
use Rattle.memory_map.specs.declared.runtime.Logging.TheVariants.{Redo, Undo}
use Rattle.memory_map.specs.declared.runtime.Runtime.{Runtime}
use Rattle.memory_map.specs.MemoryMap.{MemoryMap, logged_map}
use Rattle.memory_map.specs.Spots.{private_words}
use Rattle.lower.specs.Runs.{runs_of}
use Rattle.privatise.specs.Layouts.{IsLayoutFor, IsLayout}
use Rattle.whole_programs.specs.Laws.{IsLaidOutText}
use Rattle.compiled_model.specs.Parts.{program_parts, task_program}
use Rattle.task_needs.specs.Needs.{Need, boot_time, start_time, commit_time, need_parts}
use Rattle.code_ways.specs.Choices.{counts_from}
use Rattle.dearest_ways.specs.Ways.{dearest_way, program_choices}
use Rattle.condition_lines.specs.Behind.{functions_behind}
use Rattle.condition_lines.specs.Lines.{if_lines}
use Rattle.condition_lines.specs.Conditions.{block_ifs}
use Rattle.condition_lines.specs.Ways.{task_ways}
use Rattle.need_lines.specs.declared.needs.IfWay.{IfWay}
use Rattle.need_lines.specs.declared.needs.UndoNeed.{UndoNeed}
use Rattle.need_lines.specs.Rows.{NeedRow}
use Rattle.source_needs.specs.Bodies.{task_calls}
use Rattle.source_needs.specs.declared.needs.Table.{Table}
use Rattle.source_needs.specs.declared.needs.Parts.{Parts}

-- which ways the dearest one through a task goes at its own `if`s, by the lines of these
abbrev pub ways_gone : List ℕ → CheckedProgram → MemoryMap → ℕ → CheckedTask → List IfWay
ways_gone lines p l k task =
    let program = task_program p l k in
    let choices = program_choices program in
    let taken = (dearest_way (task_calls p l k) program).taken in
    task_ways (counts_from true 0 choices taken) (counts_from false 0 choices taken) lines (block_ifs 0 task.body)

-- what a task needs in place, by the map of a layout for that
abbrev pub undo_need : CheckedProgram → MemoryMap → ℕ → UndoNeed
undo_need p l k = let n = need_parts Undo p l k in record { boot = n.boot; start = n.start; path = n.path; commit = n.commit }

-- a task by its number: its need with its parts, the cycles and the words that the table of allowances has for it, the ways that the dearest one through it
-- goes, and what it needs where the same places are those of an image that works in place
abbrev pub need_row : List ℕ → CheckedProgram → MemoryMap → ℕ → List IfWay → CheckedTask → NeedRow
need_row text p l k ways task = let n = need_parts Redo p l k in record {
  name = spelled text task.name;
  boot = n.boot;
  start = n.start;
  path = n.path;
  commit = n.commit;
  table = (program_parts p l).cost k;
  words = task_words (summaries p) p.shared task.body;
  ways = ways;
  undo = undo_need p (logged_map l) k;
}

-- tasks from a number on, with the lines of their `if`s
abbrev pub rows_from : List ℕ → CheckedProgram → MemoryMap → List ℕ → ℕ → List CheckedTask → List NeedRow
rows_from text p l lines k [] = []
rows_from text p l lines k (task ∷ tasks) =
    need_row text p l k (ways_gone lines p l k task) task ∷ rows_from text p l (drop (length (block_ifs 0 task.body)) lines) (suc k) tasks

-- all tasks, behind the functions
abbrev pub need_rows : List ℕ → CheckedProgram → MemoryMap → List NeedRow
need_rows text p l = rows_from text p l (functions_behind (if_lines text) p.functions) 0 p.tasks

-- These are the needs of the tasks of a source, by its layout, of which there is one; the layout of its image that works in place, of which there is one too,
-- has the same places
pub record AreNeedsOf (text : List ℕ) (p : CheckedProgram) (allow : Allow) (rows : List NeedRow) : Type 0 where
  pub plans : List TaskPlanValue
  pub layout : MemoryMap
  pub is_plan : IsPlan p plans
  pub is_layout : IsLayout p allow plans layout
  pub only : (plans : List TaskPlanValue) (l : MemoryMap) → IsPlan p plans → IsLayout p allow plans l → l ≡ layout
  pub only_in_place : (plans : List TaskPlanValue) (l : MemoryMap) → IsPlan p plans → IsLayoutFor Undo p allow plans l → l ≡ logged_map layout
  pub rows_are : rows ≡ need_rows text p layout

-- ---- as it is computed

-- an accepted text, with a layout of its source, by some plan
abbrev pub IsPlannedText : List ℕ → CheckedProgram → Allow → MemoryMap → Type 0
IsPlannedText text p allow l = (plans : List TaskPlanValue) × IsLaidOutText text p allow plans l

-- these are what each task needs in place
pub record AreUndoNeeds (p : CheckedProgram) (l : MemoryMap) (needs : List UndoNeed) : Type 0 where
  pub count : length needs ≡ length p.tasks
  pub each : (k : ℕ) (other : UndoNeed) → k < length p.tasks → get_or needs k other ≡ undo_need p l k

-- the parts of a need as they are computed
abbrev pub parts_in : Parts → Need
parts_in n = record { boot = n.boot; start = n.start; path = n.path; commit = n.commit }

-- a boot up to the start of an attempt
abbrev pub boot_part : Runtime → Table → ℕ
boot_part runtime table = boot_time runtime.logging runtime.events table.list

-- the start of an attempt, with so many version words cleared, of a task with these private scalars
abbrev pub start_part : Runtime → ℕ → List PrivateScalar → ℕ
start_part runtime versions privates = start_time runtime.logging runtime.events versions (private_words privates)

-- the commit of one that lists so many elements and emits so many words
abbrev pub commit_part : Runtime → List PrivateScalar → Table → ℕ
commit_part runtime privates table =
    commit_time runtime.logging runtime.events (length (runs_of privates) + table.elements) (private_words privates + table.elements) table.emits

-- its code, whose dearest way takes so many cycles
abbrev pub path_part : Runtime → ℕ → List PrivateScalar → Table → ℕ → ℕ
path_part runtime versions privates table most =
    min most (table.bound - (boot_part runtime table + start_part runtime versions privates + commit_part runtime privates table))
