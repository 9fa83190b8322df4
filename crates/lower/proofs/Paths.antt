-- What a sum says of the paths of a text, and of those of the functions that it calls.
use Rattle.lower.proofs.Names.{◌≡◌, refl, true, List, length, CheckedBlock, CheckedFunction, Variable, block_sum, summary, AccessSummary}
use Rattle.task_ast.specs.Calls.{BlockCallsBelow, FunctionsCallBelow}
use Rattle.path_sums.specs.Access.{SomePath, IsPrivate, writes, private_of}
use Rattle.path_sums.specs.Known.{AreCallSums, EachReturns}
use Rattle.path_sums.specs.Sums.{call_sums}
use Rattle.path_sums.proofs.Interface as sums

-- functions that call those in front of them and come to a return
pub record AreCallable (fs : List CheckedFunction) : Type 0 where
  pub calls : FunctionsCallBelow 0 fs
  pub returning : EachReturns fs

module _ (v : Variable) (fs : List CheckedFunction) (callable : AreCallable fs) (b : CheckedBlock) (below : BlockCallsBelow (length fs) b) where
  abbrev known : List AccessSummary
  known = call_sums (summary v) fs

  are_sums : AreCallSums (summary v) fs known
  are_sums = record { sums = refl; calls = callable.calls; returning = callable.returning }

  pub some_writes : (block_sum known (summary v) b).writes ≡ true → SomePath fs b (writes v)
  some_writes h = sums.some_writes v fs known are_sums b below h

  pub writes_some : SomePath fs b (writes v) → (block_sum known (summary v) b).writes ≡ true
  writes_some h = sums.writes_some v fs known are_sums b below h

  pub private_is : private_of (block_sum known (summary v) b) ≡ true → IsPrivate fs b v
  private_is h = sums.private_is v fs known are_sums b below h

  pub is_private_of : IsPrivate fs b v → private_of (block_sum known (summary v) b) ≡ true
  is_private_of h = sums.is_private_of v fs known are_sums b below h
