-- The sums of the calls of functions.
use Rattle.std.specs.Prelude.{◌≡◌, ℕ, List, Some, slice_get, take}
use Rattle.task_ast.specs.Calls.{FunctionsCallBelow}
use Rattle.task_ast.specs.Paths.{CheckedFunction, Access, End, returns, BlockPath}
use Rattle.path_sums.specs.Sums.{Algebra, call_sums}

-- each path of each function returns
abbrev pub EachReturns : List CheckedFunction → Type 0
EachReturns fs = (k : ℕ) (f : CheckedFunction) → slice_get fs k ≡ Some f → (xs : List Access) (end : End) → BlockPath (take k fs) f.body xs end
    → end ≡ returns

-- these are the sums of the calls of functions that return, each of which calls those in front of it alone
pub record AreCallSums {S : Type 0} (A : Algebra S) (fs : List CheckedFunction) (known : List S) : Type 0 where
  pub sums : known ≡ call_sums A fs
  pub calls : FunctionsCallBelow 0 fs
  pub returning : EachReturns fs
