use Rattle.std.proofs.Common.{rules, arith, sym, subst, drop, zero, ◌≡◌, ◌-◌}
use Rattle.std.proofs.Math.Seq.{drop-length}
use Rattle.std.proofs.lemmas.List.{get_or_default}
use Rattle.task_check.specs.Walks.{IsWalked}
use Rattle.task_check.proofs.Fronts.{few_counts, walked_none, walked_back, refused_back}
use Rattle.task_check.proofs.walk.walk_names.Goals as goal

pub loop-i-init : goal.loop-i-init
loop-i-init c = subst (λ xs. IsWalked c.args.source.now c.args.names.now xs c.start-walk.result) (sym (drop-length c.args.names.now))
    (walked_none c.args.source.now c.args.names.now c.start-walk.result c.start-walk.ensures.locals c.start-walk.ensures.counts c.start-walk.ensures.variables
    c.start-walk.ensures.calls c.start-walk.ensures.targets c.start-walk.ensures.wrong_use c.start-walk.ensures.too_many)

pub step-requires-clause-shared : goal.step-requires-clause-shared
step-requires-clause-shared c = (few_counts c.loop-i.walk.counts c.args.names.now c.loop-i.i c.loop-i.invariant.counts c.requires.few).0

pub step-requires-clause-functions : goal.step-requires-clause-functions
step-requires-clause-functions c = (few_counts c.loop-i.walk.counts c.args.names.now c.loop-i.i c.loop-i.invariant.counts c.requires.few).1

pub step-requires-clause-tasks : goal.step-requires-clause-tasks
step-requires-clause-tasks c = (few_counts c.loop-i.walk.counts c.args.names.now c.loop-i.i c.loop-i.invariant.counts c.requires.few).2

pub step-requires-clause-locals : goal.step-requires-clause-locals
step-requires-clause-locals c = (few_counts c.loop-i.walk.counts c.args.names.now c.loop-i.i c.loop-i.invariant.counts c.requires.few).3

pub loop-i-preserved : goal.loop-i-preserved
loop-i-preserved c =
    walked_back c.args.source.now c.args.names.now c.args.globals.now c.requires.globals c.loop-i.i _ c.loop-i.walk c.loop-i-test.true (omega arith)
    (get_or_default c.args.names.now (c.loop-i.i - 1) _ _ (omega arith)) c.loop-i.invariant
    _ _ _ c.in_ok-step.ensures.ok c.in_ok-step.ensures.fine (omega arith) (omega arith)

pub returns-in_err-step-clause-refused : goal.returns-in_err-step-clause-refused
returns-in_err-step-clause-refused c =
    let h = refused_back c.args.source.now c.args.names.now c.args.globals.now c.requires.globals c.loop-i.i _ c.loop-i.walk c.loop-i-test.true (omega arith)
    (get_or_default c.args.names.now (c.loop-i.i - 1) _ _ (omega arith)) c.loop-i.invariant
    _ _ _ c.in_err-step.ensures.refused (omega arith) (omega arith) in
    search (rules, h)

pub returns-clause-ok : goal.returns-clause-ok
returns-clause-ok c = let e : c.loop-i.i ≡ zero = omega arith in
    subst (λ i. IsWalked c.args.source.now c.args.names.now (drop i c.args.names.now) c.loop-i.walk) e c.loop-i.invariant
