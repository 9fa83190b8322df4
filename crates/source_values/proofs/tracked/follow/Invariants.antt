use Rattle.source_values.proofs.Rows.{Followed}
use Rattle.source_values.proofs.tracked.follow.Given as goal

abbrev pub invariant-loop-v : goal.invariant-loop-v
invariant-loop-v l = Followed l.marks l.to l.from l.v
