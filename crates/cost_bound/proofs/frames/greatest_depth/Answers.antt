use Rattle.std.proofs.Common.{false, slice_index_or}
use Rattle.cost_bound.proofs.Called.{most_more}
use Rattle.cost_bound.proofs.frames.greatest_depth.Goals as goal

pub loop-k-preserved : goal.loop-k-preserved
loop-k-preserved c =
    most_more (λ k. slice_index_or c.args.calls.now k false) (λ s. s.depth) c.args.functions.now c.loop-k.k _ c.loop-k-test.true c.loop-k.auto.k
    c.loop-k.n c.depth_if.result c.max-n.result c.loop-k.invariant c.depth_if.ensures c.max-n.ensures
