use Rattle.cost_bound.proofs.Walks.{called_arm}
use Rattle.cost_bound.proofs.calls.+calls.Goals as goal

pub mark_in_arms-loop-i-preserved : goal.mark_in_arms-loop-i-preserved
mark_in_arms-loop-i-preserved t c = λ start last h.
    called_arm c.args.arms.now c.loop-i.i c.index-arms-i.result c.index-arms-i-in-loop-i.result c.deref.result.now last start c.loop-i.marks
    c.mark_in_block.new.marks c.mark_in_expression.new.marks
    c.loop-i-test.true c.loop-i.auto.i c.index-arms-i.is c.index-arms-i-in-loop-i.is c.deref.ensures.value (c.loop-i.invariant start last h)
    c.mark_in_block.ensures c.mark_in_expression.ensures
