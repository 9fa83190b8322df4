use Rattle.std.proofs.Common.{◌≡◌, ◌+◌, ◌*◌, ◌≤◌, ℕ, length, drop, slice_index}
use Rattle.cost_bound.specs.Allowance.{shared_sum_from, list_part}
use Rattle.cost_bound.proofs.shared.array_entries.Given as goal

pub record Summed (n i all sum : ℕ) : Type 0 where
  pub is : n ≡ sum
  pub low : n + 65535 * i ≤ 65535 * all

abbrev pub invariant-loop-i : goal.invariant-loop-i
invariant-loop-i l = Summed l.n l.i (length l.shared) (shared_sum_from (λ k extent. list_part (slice_index l.stores k) extent) l.i (drop l.i l.shared))
