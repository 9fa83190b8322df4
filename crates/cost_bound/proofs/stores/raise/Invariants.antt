use Rattle.std.proofs.Common.{◌≡◌, ◌<◌, ◌≤◌, ℕ, List, max, slice_index}
use Rattle.cost_bound.proofs.stores.raise.Given as goal

pub record Raised (from now other : List ℕ) (i : ℕ) : Type 0 where
  pub done : (k : ℕ) → k < i → slice_index now k ≡ max (slice_index other k) (slice_index from k)
  pub left : (k : ℕ) → i ≤ k → slice_index now k ≡ slice_index from k

abbrev pub invariant-loop-i : goal.invariant-loop-i
invariant-loop-i l = Raised l.fn.counts l.counts l.other l.i
