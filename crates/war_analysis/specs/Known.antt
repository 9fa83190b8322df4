-- The sums of calls that the analysis works with.
use Rattle.std.specs.Prelude.{◌≡◌, ℕ, List, length, slice_get, Some, Vec}
use Rattle.std.specs.Global.{Global}
use Rattle.task_ast.specs.declared.names.Variable.TheVariants.{Shared}
use Rattle.task_ast.specs.Calls.{BlockCallsBelow}
use Rattle.task_ast.specs.Paths.{CheckedFunction, CheckedBlock}
use Rattle.path_sums.specs.declared.access.AccessSummary.{AccessSummary}
use Rattle.path_sums.specs.Access.{summary}
use Rattle.path_sums.specs.Known.{AreCallSums}

-- these are the sums of the calls of functions that return, for each of so many shared variables by its number
pub record AreSumsByVariable (functions : List CheckedFunction) (variables : ℕ) (sums : List (Vec AccessSummary Global)) : Type 0 where
  pub count : length sums ≡ variables
  pub each : (i : ℕ) (known : Vec AccessSummary Global) → slice_get sums i ≡ Some known → AreCallSums (summary (Shared i)) functions known.items

-- it holds of the functions whose sums these are, where the text calls no others
abbrev pub ForCalled : ℕ → List (Vec AccessSummary Global) → CheckedBlock → (List CheckedFunction → Type 0) → Type 0
ForCalled variables sums code P = (functions : List CheckedFunction) → AreSumsByVariable functions variables sums
    → BlockCallsBelow (length functions) code → P functions
