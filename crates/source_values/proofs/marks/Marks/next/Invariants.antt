use Rattle.std.proofs.Common.{◌-◌, ℕ, ◌<◌, ◌≤◌}
use Rattle.source_values.specs.Marks.{IsMarked}
use Rattle.source_values.proofs.marks.Marks.next.Given as goal

abbrev pub invariant-loop-i : goal.invariant-loop-i
invariant-loop-i l = record {
  later : l.from ≤ l.i;
  none : (j : ℕ) → l.from ≤ j → j < l.i → IsMarked l.self l.v j → ⊥;
}

abbrev pub decreases-loop-i : goal.decreases-loop-i
decreases-loop-i l = l.end - l.i
