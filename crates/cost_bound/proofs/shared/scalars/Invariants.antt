use Rattle.std.proofs.Common.{◌≡◌, ◌+◌, ◌*◌, ◌≤◌, ℕ, false, length, drop, slice_index_or}
use Rattle.cost_bound.specs.Allowance.{shared_sum_from, scalar_part}
use Rattle.cost_bound.proofs.shared.scalars.Given as goal

pub record Counted (n i all sum : ℕ) : Type 0 where
  pub is : n ≡ sum
  pub low : n + 2 * i ≤ 2 * all

abbrev pub invariant-loop-i : goal.invariant-loop-i
invariant-loop-i l = Counted l.n l.i (length l.shared)
    (shared_sum_from (λ k extent. scalar_part (slice_index_or l.assigned k false) extent) l.i (drop l.i l.shared))
