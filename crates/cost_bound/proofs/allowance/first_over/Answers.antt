use Rattle.cost_bound.specs.Machine.{known_of}
use Rattle.cost_bound.proofs.First.{few_more, few_all, over_at}
use Rattle.cost_bound.proofs.allowance.first_over.Goals as goal

pub returns-then-emits-gt-MAX_EMITS-clause-some : goal.returns-then-emits-gt-MAX_EMITS-clause-some
returns-then-emits-gt-MAX_EMITS-clause-some c =
    over_at (known_of c.args.functions.now) c.args.tasks.now c.loop-i.i c.emits.result c.index-tasks-i.result c.deref.result.now c.loop-i-test.true
    c.deref.ensures.value c.loop-i.invariant
    c.emits.ensures c.if-emits-gt-MAX_EMITS.true

pub loop-i-preserved : goal.loop-i-preserved
loop-i-preserved c =
    few_more (known_of c.args.functions.now) c.args.tasks.now c.loop-i.i c.emits.result c.index-tasks-i.result c.deref.result.now c.loop-i-test.true
    c.deref.ensures.value c.loop-i.invariant
    c.emits.ensures c.if-emits-gt-MAX_EMITS.false

pub returns-clause-none : goal.returns-clause-none
returns-clause-none c = few_all (known_of c.args.functions.now) c.args.tasks.now c.loop-i.i c.loop-i-test.false c.loop-i.invariant
