-- What tasks work on in copies (Maeng, Colin, Lucia: Alpaca, OOPSLA 2017): private scalars and versioned arrays.
use Rattle.std.specs.Prelude.{◌≡◌, ◌<◌, ℕ, Bool, true, false, List, length, All, AllPairs, Contains, slice_get, Some, IsSomeAnd}
use Rattle.task_ast.specs.declared.Extent.{Extent}
use Rattle.task_ast.specs.declared.Extent.TheVariants.{Scalar, Long, Array}
use Rattle.task_ast.specs.declared.SharedDeclaration.{SharedDeclaration}
use Rattle.task_ast.specs.declared.names.Variable.TheVariants.{Shared}
use Rattle.task_ast.specs.Paths.{CheckedFunction}
use Rattle.cost_bound.specs.path_sums.Access.{writes, SomePath, IsPrivate}
use Rattle.cost_bound.specs.Counts.{CheckedBlock}
use Rattle.cost_bound.specs.Allowance.{CheckedTask, CheckedProgram}
use Rattle.war_analysis.specs.PlanValue.{TaskPlanValue}

-- whether it is a scalar, which may be a long
abbrev pub is_scalar : Extent → Bool
is_scalar (Scalar _) = true
is_scalar (Long _) = true
is_scalar (Array _) = false

-- the shared variable of a number is a scalar
abbrev pub IsScalarAt : List SharedDeclaration → ℕ → Type 0
IsScalarAt shared i = IsSomeAnd (slice_get shared i) (λ d. is_scalar d.extent ≡ true)

-- the shared variable of a number is an array
abbrev pub IsArrayAt : List SharedDeclaration → ℕ → Type 0
IsArrayAt shared i = IsSomeAnd (slice_get shared i) (λ d. is_scalar d.extent ≡ false)

-- A shared scalar is private in a task, which may call these functions, exactly where some path of the task writes it, and not every path writes it before it
-- reads it
-- and before its transition. A scalar that the task writes and that isn't private in it stays in place.
pub record IsPrivateIn (functions : List CheckedFunction) (shared : List SharedDeclaration) (code : CheckedBlock) (i : ℕ) : Type 0 where
  pub scalar : IsScalarAt shared i
  pub owed : IsPrivate functions code (Shared i)

-- a shared array is versioned in a task exactly where some path of the task writes one of its elements
pub record IsVersionedIn (functions : List CheckedFunction) (shared : List SharedDeclaration) (code : CheckedBlock) (i : ℕ) : Type 0 where
  pub array : IsArrayAt shared i
  pub written : SomePath functions code (writes (Shared i))

-- exactly the numbers that are so, in ascending order
pub record AreNumbers (P : ℕ → Type 0) (xs : List ℕ) : Type 0 where
  pub ascending : AllPairs ◌<◌ xs
  pub only : All P xs
  pub each : (i : ℕ) → P i → Contains xs i

-- what a task works on in copies
pub record IsTaskPlan (functions : List CheckedFunction) (shared : List SharedDeclaration) (code : CheckedBlock) (plan : TaskPlanValue) : Type 0 where
  pub private_scalars : AreNumbers (IsPrivateIn functions shared code) plan.private_scalars
  pub versioned_arrays : AreNumbers (IsVersionedIn functions shared code) plan.versioned_arrays

-- a plan for each task, by its number
pub record ArePlans (functions : List CheckedFunction) (shared : List SharedDeclaration) (tasks : List CheckedTask) (plans : List TaskPlanValue) :
    Type 0 where
  pub count : length plans ≡ length tasks
  pub each : (k : ℕ) (task : CheckedTask) (plan : TaskPlanValue) → slice_get tasks k ≡ Some task → slice_get plans k ≡ Some plan
      → IsTaskPlan functions shared task.body plan

-- what the tasks of a source work on in copies
abbrev pub IsPlan : CheckedProgram → List TaskPlanValue → Type 0
IsPlan p plans = ArePlans p.functions p.shared p.tasks plans
