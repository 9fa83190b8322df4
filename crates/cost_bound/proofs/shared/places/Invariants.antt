use Rattle.std.proofs.Common.{◌≡◌, ◌+◌, ◌*◌, ◌≤◌, ℕ, length, drop, false, slice_index_or}
use Rattle.cost_bound.specs.Allowance.{shared_sum_from, place_part}
use Rattle.cost_bound.proofs.shared.places.Given as goal

pub record Summed (n i all sum : ℕ) : Type 0 where
  pub is : n ≡ sum
  pub low : n + 196605 * i ≤ 196605 * all

abbrev pub invariant-loop-i : goal.invariant-loop-i
invariant-loop-i l = Summed l.n l.i (length l.shared)
    (shared_sum_from (λ k extent. place_part (slice_index_or l.written k false) extent) l.i (drop l.i l.shared))
