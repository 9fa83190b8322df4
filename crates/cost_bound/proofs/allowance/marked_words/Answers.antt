use Rattle.std.proofs.Common.{◌+◌, false, slice_index_or}
use Rattle.cost_bound.proofs.Called.{all_more}
use Rattle.cost_bound.proofs.allowance.marked_words.Goals as goal

pub loop-k-preserved : goal.loop-k-preserved
loop-k-preserved c =
    all_more (λ k. slice_index_or c.args.marks.now k false) (λ s. 40 + s.words) c.args.functions.now c.loop-k.k _ c.loop-k-test.true c.loop-k.auto.k
    c.loop-k.n c.words_if.result c.plus-n.result c.loop-k.invariant c.words_if.ensures c.plus-n.ensures
