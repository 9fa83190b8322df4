use Rattle.std.proofs.Common.{◌-◌}
use Rattle.source_values.proofs.Marked.{RowFollowed}
use Rattle.source_values.proofs.tracked.follow_row.Given as goal

abbrev pub invariant-loop-i : goal.invariant-loop-i
invariant-loop-i l = RowFollowed l.marks l.v l.to l.from l.i

abbrev pub decreases-loop-i : goal.decreases-loop-i
decreases-loop-i l = l.end - l.i
