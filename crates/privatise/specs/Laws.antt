-- What holds of layouts.
use Rattle.std.specs.Prelude.{◌≡◌, ℕ, ◌-◌, ◌≤◌, true, List, length, Some, slice_get}
use Rattle.task_ast.specs.Calls.{BlockCallsBelow, FunctionsCallBelow}
use Rattle.cost_bound.specs.Counts.{CheckedBlock, block_calls, reaches_of}
use Rattle.cost_bound.specs.Summaries.{summaries}
use Rattle.cost_bound.specs.Frames.{frame_of, stack_of}
use Rattle.memory_map.specs.declared.place.RoutinePlace.{RoutinePlace}
use Rattle.memory_map.specs.Spots.{routine_among}
use Rattle.privatise.specs.Routines.{Known, IsFunction, IsRoutineOf, known_functions, floor_words, words_above, task_routines}
use Rattle.cost_bound.specs.declared.allowance.Allow.{Allow}
use Rattle.cost_bound.specs.Allowance.{CheckedProgram}
use Rattle.war_analysis.specs.PlanValue.{TaskPlanValue}
use Rattle.war_analysis.specs.Plans.{IsPlan}
use Rattle.memory_map.specs.declared.runtime.Logging.{Logging}
use Rattle.memory_map.specs.declared.runtime.Logging.TheVariants.{Redo, Undo}
use Rattle.memory_map.specs.MemoryMap.{MemoryMap, logged_map}
use Rattle.privatise.specs.Layouts.{IsLayoutFor, IsLayout}

-- a source has one layout at most for each runtime
abbrev pub OneLayoutFor : Logging → CheckedProgram → Allow → Type 0
OneLayoutFor logging p allow = (plans : List TaskPlanValue) (a b : MemoryMap) → IsPlan p plans → IsLayoutFor logging p allow plans a
    → IsLayoutFor logging p allow plans b → a ≡ b

-- and so where it is compiled to work in copies
abbrev pub OneLayout : CheckedProgram → Allow → Type 0
OneLayout = OneLayoutFor Redo

-- the same places for the undo runtime are its layout for that
abbrev pub LayoutsAreLogged : Type 0
LayoutsAreLogged = (p : CheckedProgram) (allow : Allow) (plans : List TaskPlanValue) (l : MemoryMap) → IsLayout p allow plans l
    → IsLayoutFor Undo p allow plans (logged_map l)

-- ---- the functions of a task

-- a function has its place in a list
pub record IsPlacedIn (rs : List RoutinePlace) (number : ℕ) : Type 0 where
  pub place : RoutinePlace
  pub index : ℕ
  pub at : slice_get rs index ≡ Some place
  pub found : routine_among rs number ≡ Some place
  pub is : place.function ≡ number

-- a task has one place for each function that it reaches, and for no other
pub record RoutinesStand (p : CheckedProgram) (body : CheckedBlock) (rs : List RoutinePlace) : Type 0 where
  pub each : (j : ℕ) (r : RoutinePlace) → slice_get rs j ≡ Some r → IsRoutineOf p body r
  pub own : (j : ℕ) (r : RoutinePlace) → slice_get rs j ≡ Some r → routine_among rs r.function ≡ Some r
  pub all : (k : ℕ) (f : Known) → IsFunction p k f → reaches_of (summaries p) k body ≡ true → IsPlacedIn rs k

abbrev pub AllRoutinesStand : Type 0
AllRoutinesStand = (p : CheckedProgram) (body : CheckedBlock) (at : ℕ) → RoutinesStand p body (task_routines (known_functions p) body at)

-- In a task of a source whose calls are of functions in front: the frame of a function that is called is below that of what calls it, and all are within
-- the task's stack.
pub record FramesStand (p : CheckedProgram) (body : CheckedBlock) : Type 0 where
  pub callees_of_task : (k : ℕ) (f : Known) → IsFunction p k f → block_calls k body ≡ true
      → frame_of 0 body ≤ words_above (stack_of (summaries p) body) f.summary.depth
  pub callees : (j k : ℕ) (f g : Known) → IsFunction p k f → IsFunction p j g → reaches_of (summaries p) k body ≡ true
      → block_calls j f.function.body ≡ true
      → floor_words (stack_of (summaries p) body) f ≤ words_above (stack_of (summaries p) body) g.summary.depth
  pub task_within : frame_of 0 body ≤ stack_of (summaries p) body - 16
  pub within : (k : ℕ) (f : Known) → IsFunction p k f → reaches_of (summaries p) k body ≡ true
      → floor_words (stack_of (summaries p) body) f ≤ stack_of (summaries p) body - 16

abbrev pub AllFramesStand : Type 0
AllFramesStand = (p : CheckedProgram) (body : CheckedBlock) → FunctionsCallBelow 0 p.functions → BlockCallsBelow (length p.functions) body
    → FramesStand p body
