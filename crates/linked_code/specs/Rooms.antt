-- That the layout of a source has room for its code.
use Rattle.std.specs.Prelude.{◌≡◌, ℕ, ◌≤◌, List, [], ◌∷◌, length, Some, slice_get}
use Rattle.boot_runtime.specs.task_ast.declared.SharedDeclaration.{SharedDeclaration}
use Rattle.boot_runtime.specs.cost_bound.declared.allowance.Allow.{Allow}
use Rattle.boot_runtime.specs.cost_bound.Summary.{Summary}
use Rattle.boot_runtime.specs.cost_bound.Summaries.{summaries}
use Rattle.boot_runtime.specs.cost_bound.Allowance.{CheckedProgram, CheckedTask, IsAllowed, own_words, scalars_of}
use Rattle.boot_runtime.specs.war_analysis.PlanValue.{TaskPlanValue}
use Rattle.word_code.specs.array_versions.TaskPrograms.{TaskPrograms}
use Rattle.word_code.specs.array_versions.Cost.{words_of}
use Rattle.boot_runtime.specs.memory_map.declared.runtime.Logging.{Logging}
use Rattle.boot_runtime.specs.memory_map.MemoryMap.{MemoryMap, TaskPlace}
use Rattle.boot_runtime.specs.memory_map.Spots.{private_words}
use Rattle.boot_runtime.specs.privatise.Layouts.{IsLayoutFor}
use Rattle.linked_code.specs.Linked.{RoutinesFit, CallsAmong, CodeFits}

-- the own program of a task keeps to the words that the allowance has for it, where these functions are known, and those of the functions that it
-- reaches to the words that the layout has for them; it calls these functions
pub record TaskKeeps (known : List Summary) (shared : List SharedDeclaration) (task : CheckedTask) (t : TaskPlace) (p : TaskPrograms) : Type 0 where
  pub own : words_of p.own ≤ own_words known shared task.body
  pub routines : RoutinesFit t.routines p.routines
  pub calls : CallsAmong t.routines p.routines p.own

-- the programs of each task do
abbrev pub ProgramsKeep : List Summary → List SharedDeclaration → List CheckedTask → List TaskPlace → List TaskPrograms → Type 0
ProgramsKeep known shared [] [] [] = Unit {0}
ProgramsKeep known shared (t ∷ ts) (place ∷ places) (q ∷ qs) = TaskKeeps known shared t place q × ProgramsKeep known shared ts places qs
ProgramsKeep known shared _ _ _ = ⊥

-- each task's private scalars have at most as many words as the allowance counts
abbrev pub PrivatesAreCounted : CheckedProgram → MemoryMap → Type 0
PrivatesAreCounted p l = (k : ℕ) (task : CheckedTask) (t : TaskPlace) → slice_get p.tasks k ≡ Some task → slice_get l.tasks k ≡ Some t
    → private_words t.privates ≤ scalars_of (summaries p) p.shared task.body

-- the layout of a source that costs no more than it may has room for the code, whichever its runtime is
abbrev pub LayoutsHaveRoom : Type 0
LayoutsHaveRoom = (logging : Logging) (p : CheckedProgram) (allow : Allow) (plans : List TaskPlanValue) (l : MemoryMap) (programs : List TaskPrograms)
    → IsAllowed p allow → IsLayoutFor logging p allow plans l → length plans ≡ length p.tasks → PrivatesAreCounted p l
    → ProgramsKeep (summaries p) p.shared p.tasks l.tasks programs
    → CodeFits l programs
