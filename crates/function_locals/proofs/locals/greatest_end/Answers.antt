use Rattle.std.proofs.Common.{false, slice_index_or}
use Rattle.function_locals.proofs.Loops.{end_more}
use Rattle.function_locals.proofs.locals.greatest_end.Goals as goal

pub loop-k-preserved : goal.loop-k-preserved
loop-k-preserved c =
    end_more (λ k. slice_index_or c.args.calls.now k false) c.args.known.now c.loop-k.k _ c.loop-k-test.true c.loop-k.auto.k
    c.loop-k.n c.end_if.result c.max-n.result c.loop-k.invariant c.end_if.ensures c.max-n.ensures
