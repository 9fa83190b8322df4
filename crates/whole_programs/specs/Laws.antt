-- What holds of the word programs of accepted sources.
use Rattle.std.specs.Prelude.{◌≡◌, ◌≤◌, ℕ, ◌-◌, ◌*◌, List, All, Some, slice_get}
use Rattle.task_ast.specs.Paths.{CheckedProgram, CheckedTask}
use Rattle.cost_bound.specs.declared.allowance.Allow.{Allow}
use Rattle.cost_bound.specs.Frames.{stack_of}
use Rattle.cost_bound.specs.Summaries.{summaries}
use Rattle.cost_bound.specs.Allowance.{scalars_of}
use Rattle.source_meaning.specs.Acceptance.{IsAcceptedText}
use Rattle.war_analysis.specs.PlanValue.{TaskPlanValue}
use Rattle.war_analysis.specs.Plans.{IsPlan}
use Rattle.memory_map.specs.declared.runtime.Logging.{Logging}
use Rattle.memory_map.specs.MemoryMap.{MemoryMap, TaskPlace}
use Rattle.memory_map.specs.Spots.{private_words}
use Rattle.privatise.specs.Layouts.{IsLayoutFor}
use Rattle.array_versions.specs.Program.{Program}
use Rattle.array_versions.specs.Form.{IsWhole, LocalsBelow, OfWords}
use Rattle.linked_code.specs.Linked.{CallsAmong}
use Rattle.linked_code.specs.runtime_code.Addresses.{stack_top}
use Rattle.lower.specs.Lowered.{lowered_task, lowered}

-- an accepted text, with a plan and a layout of its source for some runtime
pub record IsLaidOutText (text : List ℕ) (program : CheckedProgram) (allow : Allow) (plans : List TaskPlanValue) (l : MemoryMap) : Type 0 where
  pub accepted : IsAcceptedText text program allow
  pub plan : IsPlan program plans
  pub logging : Logging
  pub layout : IsLayoutFor logging program allow plans l

-- what holds of each accepted text with a plan and a layout
abbrev OfTexts : (CheckedProgram → MemoryMap → Type 0) → Type 0
OfTexts F = (text : List ℕ) (program : CheckedProgram) (allow : Allow) (plans : List TaskPlanValue) (l : MemoryMap)
    → IsLaidOutText text program allow plans l → F program l

-- what holds of each of its tasks, by number
abbrev OfTasks : (CheckedProgram → CheckedTask → MemoryMap → TaskPlace → Type 0) → Type 0
OfTasks F = OfTexts (λ program l. (k : ℕ) (task : CheckedTask) (t : TaskPlace)
    → slice_get program.tasks k ≡ Some task → slice_get l.tasks k ≡ Some t → F program task l t)

-- the word program of each task is whole, and of words. So are the programs of all functions
-- that it calls, which are within its bounds
abbrev pub TasksAreWhole : Type 0
TasksAreWhole = OfTasks (λ program task l t. IsWhole (lowered_task program.functions l t task.body).own
    × OfWords (lowered_task program.functions l t task.body).own)

-- a program is whole, and its stack and those of what it calls stay within so many words, of which 16 are left to handlers
pub record KeepsToWords (words : ℕ) (p : Program) : Type 0 where
  pub whole : IsWhole p
  pub floor : stack_top - 2 * (words - 16) ≤ whole.bounds.floor

-- each task's program keeps to the words of its stack
abbrev pub TasksKeepTheirStacks : Type 0
TasksKeepTheirStacks = OfTasks (λ program task l t. KeepsToWords (stack_of (summaries program) task.body)
    (lowered_task program.functions l t task.body).own)

-- the same of all of them
abbrev pub ProgramsAreWhole : Type 0
ProgramsAreWhole = OfTexts (λ program l. All (λ q. IsWhole q.own) (lowered l program) × All (λ q. OfWords q.own) (lowered l program))

-- each call of a task, and of what it calls, is of the code of one of the functions that it reaches, and has its program
abbrev pub CallsAreTheirs : Type 0
CallsAreTheirs = OfTasks (λ program task l t. CallsAmong t.routines (lowered_task program.functions l t task.body).routines
    (lowered_task program.functions l t task.body).own)

-- the locals of the functions that a task reaches stand in registers and in RAM
abbrev pub RoutinesAreLow : Type 0
RoutinesAreLow = OfTasks (λ program task l t. All (LocalsBelow 1016) (lowered_task program.functions l t task.body).routines)

-- the private scalars of each task have at most as many words as its allowance counts, which counts those on the left of an assignment in it or in what
-- it calls
abbrev pub PrivatesAreFew : Type 0
PrivatesAreFew = OfTasks (λ program task l t. private_words t.privates ≤ scalars_of (summaries program) program.shared task.body)
