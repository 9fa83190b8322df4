use Rattle.std.proofs.Common.{◌≡◌, ◌<◌, ◌≤◌, ◌||◌, ℕ, Bool, false, List, slice_index_or}
use Rattle.cost_bound.proofs.marks.add_marks.Given as goal

pub record Added (from now more : List Bool) (i : ℕ) : Type 0 where
  pub done : (k : ℕ) → k < i → slice_index_or now k false ≡ (slice_index_or from k false || slice_index_or more k false)
  pub left : (k : ℕ) → i ≤ k → slice_index_or now k false ≡ slice_index_or from k false

abbrev pub invariant-loop-i : goal.invariant-loop-i
invariant-loop-i l = Added l.fn.marks l.marks l.more l.i
