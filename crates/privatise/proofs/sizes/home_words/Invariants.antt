use Rattle.std.proofs.Common.{◌≡◌, ◌+◌, ◌*◌, ◌≤◌, ℕ, length, drop}
use Rattle.cost_bound.specs.Allowance.{shared_sum_from}
use Rattle.privatise.specs.Sizes.{home_part}
use Rattle.privatise.proofs.sizes.home_words.Given as goal

pub record Summed (n i all sum : ℕ) : Type 0 where
  pub is : n ≡ sum
  pub low : n + 65535 * i ≤ 65535 * all

abbrev pub invariant-loop-i : goal.invariant-loop-i
invariant-loop-i l = Summed l.n l.i (length l.shared) (shared_sum_from (λ k extent. home_part extent) l.i (drop l.i l.shared))
