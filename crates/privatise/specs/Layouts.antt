-- The layout of a source.
use Rattle.std.specs.Prelude.{◌≡◌, ℕ, ◌+◌, ◌*◌, ◌≤◌, Bool, true, List, length, map, Some, is_some, slice_get}
use Rattle.task_ast.specs.declared.Extent.{Extent}
use Rattle.task_ast.specs.declared.Extent.TheVariants as extent
use Rattle.task_ast.specs.declared.SharedDeclaration.{SharedDeclaration}
use Rattle.task_check.specs.Placed.{IsPlaced}
use Rattle.cost_bound.specs.declared.allowance.Allow.{Allow}
use Rattle.cost_bound.specs.Counts.{CheckedBlock}
use Rattle.cost_bound.specs.Summaries.{summaries}
use Rattle.cost_bound.specs.Allowance.{CheckedProgram, CheckedTask, is_written, own_words, total, plain_words_of, uses_events}
use Rattle.war_analysis.specs.PlanValue.{TaskPlanValue}
use Rattle.memory_map.specs.address_space.Limits.{fram_first}
use Rattle.memory_map.specs.declared.place.ScalarWidth.TheVariants.{OneWord, TwoWords}
use Rattle.memory_map.specs.declared.place.VariablePlace.{VariablePlace}
use Rattle.memory_map.specs.declared.place.VariablePlace.TheVariants.{Scalar, Array}
use Rattle.memory_map.specs.declared.runtime.Logging.{Logging}
use Rattle.memory_map.specs.declared.runtime.Logging.TheVariants.{Redo}
use Rattle.memory_map.specs.declared.runtime.Runtime.{Runtime}
use Rattle.memory_map.specs.MemoryMap.{MemoryMap, TaskPlace, lone_redo}
use Rattle.memory_map.specs.Places.{end_of, IsLaidOut}
use Rattle.privatise.specs.Sizes.{home_words, copy_words, body_words, boot_words, commit_words}
use Rattle.function_locals.specs.Locals.{base_of}
use Rattle.privatise.specs.Routines.{KnownFunctions, known_functions, task_routines}

-- a scalar has the place of a scalar, of one word, or of two where it is a long; an array one of its length, with copies and versions exactly where
-- some task writes it
abbrev pub IsPlaceOf : Bool → Extent → VariablePlace → Type 0
IsPlaceOf written (extent.Scalar _) (Scalar _ _ width) = width ≡ OneWord
IsPlaceOf written (extent.Long _) (Scalar _ _ width) = width ≡ TwoWords
IsPlaceOf written (extent.Array n) (Array _ length copies) = (length ≡ n) × (is_some copies ≡ written)
IsPlaceOf written (extent.Scalar _) (Array _ _ _) = ⊥
IsPlaceOf written (extent.Long _) (Array _ _ _) = ⊥
IsPlaceOf written (extent.Array n) (Scalar _ _ _) = ⊥

-- each variable has a place, by its number
pub record AreVariables (p : CheckedProgram) (places : List VariablePlace) : Type 0 where
  pub count : length places ≡ length p.shared
  pub each : (i : ℕ) (d : SharedDeclaration) (place : VariablePlace) → slice_get p.shared i ≡ Some d → slice_get places i ≡ Some place
      → IsPlaceOf (is_written (summaries p) p.tasks i) d.extent place

-- the private scalars of the plan, the words of the task's own code, its locals behind the registers of all that it calls, and the functions that
-- it reaches, right behind its code
pub record IsTaskLayout (known : KnownFunctions) (shared : List SharedDeclaration) (code : CheckedBlock) (plan : TaskPlanValue) (t : TaskPlace) : Type 0 where
  pub privates : map (λ s. s.number) t.privates ≡ plan.private_scalars
  pub words : t.code.words ≡ own_words known.summaries shared code
  pub first : t.first ≡ base_of known.locals code
  pub routines : t.routines ≡ task_routines known code (end_of t.code)

-- each task has a layout, by its number
pub record AreTasks (p : CheckedProgram) (plans : List TaskPlanValue) (tasks : List TaskPlace) : Type 0 where
  pub count : length tasks ≡ length p.tasks
  pub each : (k : ℕ) (task : CheckedTask) (plan : TaskPlanValue) (t : TaskPlace) → slice_get p.tasks k ≡ Some task → slice_get plans k ≡ Some plan
      → slice_get tasks k ≡ Some t → IsTaskLayout (known_functions p) p.shared task.body plan t

-- the runtime of a source that logs so: that of a board that is alone, which takes events where the source uses some
abbrev pub runtime_for : Logging → CheckedProgram → Runtime
runtime_for logging p = record lone_redo { logging = logging; events = uses_events p }

-- The layout of a source, by how its runtime logs, for a board that is alone: it keeps the rules of layouts,
-- its buffers have room for what the source's allowance says, its variables and tasks are those of the source, and the whole takes no more words than
-- the source has without what events need, of which the last is the one at FFFE. The places are the same for each runtime.
pub record IsLayoutFor (logging : Logging) (p : CheckedProgram) (allow : Allow) (plans : List TaskPlanValue) (l : MemoryMap) : Type 0 where
  pub placed : IsPlaced p
  pub runtime : l.runtime ≡ runtime_for logging p
  pub rules : IsLaidOut l
  pub list : l.entries ≡ allow.list
  pub emits : l.emits.words ≡ allow.emits
  pub versions : l.versions.words ≡ allow.versions
  pub homes : l.homes.words ≡ home_words p.shared
  pub copies : l.copies.words ≡ copy_words p
  pub variables : AreVariables p l.variables
  pub boot : l.boot.words ≡ boot_words (summaries p) p.shared p.tasks
  pub commit : l.commit.words ≡ commit_words
  pub code : l.code.words ≡ total (body_words (summaries p) p.shared) p.tasks
  pub tasks : AreTasks p plans l.tasks
  pub size : end_of l.code + 2 ≤ fram_first + 2 * plain_words_of p

-- the layout of a source that is compiled to work in copies
abbrev pub IsLayout : CheckedProgram → Allow → List TaskPlanValue → MemoryMap → Type 0
IsLayout = IsLayoutFor Redo
