use Rattle.std.proofs.Common.{◌≤◌, ◌<◌, ◌-◌, ℕ}
use Rattle.board_run.specs.Shadow.{IsMarked}
use Rattle.board_run.proofs.shadow.Shadow.next.Given as goal

abbrev pub invariant-loop-place : goal.invariant-loop-place
invariant-loop-place l = record {
  later : l.from ≤ l.place;
  none : (i : ℕ) → l.from ≤ i → i < l.place → IsMarked l.self i → ⊥;
}

abbrev pub decreases-loop-place : goal.decreases-loop-place
decreases-loop-place l = l.end - l.place
