use Rattle.cost_bound.proofs.Walks.{marked_arm}
use Rattle.cost_bound.proofs.assigned.+assigned.Goals as goal

pub mark_arms-loop-i-preserved : goal.mark_arms-loop-i-preserved
mark_arms-loop-i-preserved t c = λ start last h.
    marked_arm c.args.arms.now c.loop-i.i c.index-arms-i.result c.deref.result.now last start c.loop-i.marks c.mark_assigned.new.marks
    c.loop-i-test.true c.loop-i.auto.i c.index-arms-i.is c.deref.ensures.value (c.loop-i.invariant start last h) c.mark_assigned.ensures
