use Rattle.std.proofs.Common.{◌≡◌, ◌+◌, ◌*◌, ◌<◌, ◌≤◌, ℕ, List, slice_index}
use Rattle.cost_bound.specs.Table.{capped}
use Rattle.cost_bound.proofs.stores.add_turns.Given as goal

pub record Added (from now turn : List ℕ) (turns i : ℕ) : Type 0 where
  pub done : (k : ℕ) → k < i → capped (slice_index now k) ≡ capped (slice_index from k + turns * slice_index turn k)
  pub left : (k : ℕ) → i ≤ k → slice_index now k ≡ slice_index from k

abbrev pub invariant-loop-i : goal.invariant-loop-i
invariant-loop-i l = Added l.fn.counts l.counts l.turn l.turns l.i
