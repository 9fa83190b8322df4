-- What the layers of the compiler give of a source with its layout.
use Rattle.std.specs.Prelude.{◌≡◌, ℕ, List}
use Rattle.cost_bound.specs.declared.allowance.Allow.{Allow}
use Rattle.source_values.specs.Runs.{CheckedProgram}
use Rattle.war_analysis.specs.PlanValue.{TaskPlanValue}
use Rattle.memory_map.specs.declared.runtime.Logging.TheVariants.{Redo}
use Rattle.memory_map.specs.MemoryMap.{MemoryMap}
use Rattle.crash_rules.specs.Model.{ModelLaws}
use Rattle.whole_programs.specs.Laws.{IsLaidOutText}
use Rattle.compiled_model.specs.Parts.{compiled_model}
use Rattle.compiled_model.specs.Needs.{AttemptsStoreBelow}
use Rattle.task_needs.specs.Lists.{TasksListFew, NeedsAreWithin}
use Rattle.compiled_runs.specs.Laws.{CanRun}

-- its tasks and its runtime keep what the crash theorem asks for, its code can run, no attempt stores on the code, its tasks need what they are said to, and
-- under redo list few words
pub record IsReadyToRun (p : CheckedProgram) (l : MemoryMap) : Type 0 where
  pub model : ModelLaws (compiled_model p l)
  pub code : CanRun p l
  pub stores : AttemptsStoreBelow p l l.boot.address
  pub few : l.runtime.logging ≡ Redo → TasksListFew p l
  pub needs : NeedsAreWithin l.runtime.logging p l

-- each accepted text with a plan and a layout of its source is so
abbrev pub SourcesAreReady : Type 0
SourcesAreReady = (text : List ℕ) (p : CheckedProgram) (allow : Allow) (plans : List TaskPlanValue) (l : MemoryMap)
    → IsLaidOutText text p allow plans l → IsReadyToRun p l
