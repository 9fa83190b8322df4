use Rattle.std.proofs.Common.{false, slice_index_or}
use Rattle.cost_bound.proofs.Called.{called_marked}
use Rattle.cost_bound.proofs.marks.mark_what_calls_reach.Goals as goal

pub loop-k-preserved : goal.loop-k-preserved
loop-k-preserved c =
    called_marked (λ i s. s.reaches i) (λ k. slice_index_or c.args.calls.now k false) c.args.functions.now c.loop-k.k _
    c.args.marks.now c.loop-k.marks c.mark_reached_if.new.marks c.loop-k-test.true c.loop-k.auto.k c.loop-k.invariant c.mark_reached_if.ensures
