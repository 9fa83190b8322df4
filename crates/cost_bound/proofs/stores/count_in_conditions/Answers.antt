use Rattle.cost_bound.specs.Counts.{called_stores}
use Rattle.cost_bound.specs.Machine.{known_of}
use Rattle.cost_bound.proofs.Walks.{condition_counted}
use Rattle.cost_bound.proofs.stores.count_in_conditions.Goals as goal

pub loop-i-preserved : goal.loop-i-preserved
loop-i-preserved c = λ last.
    condition_counted (λ k. called_stores (known_of c.args.functions.now) k) c.args.arms.now c.loop-i.i c.index-arms-i.result last c.args.counts.now
    c.loop-i.counts c.count_in_expression.new.counts c.loop-i-test.true c.loop-i.auto.i c.index-arms-i.is (c.loop-i.invariant last)
    c.count_in_expression.ensures
