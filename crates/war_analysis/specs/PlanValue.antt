-- A task's plan as a value.
use Rattle.std.specs.Prelude.{ℕ, List}

-- the shared scalars and arrays that a task works on in copies, by their numbers in order of declaration
pub record TaskPlanValue : Type 0 where
  pub private_scalars : List ℕ
  pub versioned_arrays : List ℕ
