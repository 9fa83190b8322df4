use Rattle.std.proofs.Common.{arith, subst, drop, zero, ◌≡◌, ◌-◌}
use Rattle.std.proofs.lemmas.List.{get_or_default}
use Rattle.task_check.specs.Walks.{HasGlobals}
use Rattle.task_check.proofs.Fronts.{few_counts, globals_back, globals_none}
use Rattle.task_check.proofs.walk.globals_of.Goals as goal

pub loop-i-init : goal.loop-i-init
loop-i-init c = globals_none c.args.source.now c.args.names.now c.empty-globals.result c.empty-globals.ensures

pub counted-counts-requires-clause-shared : goal.counted-counts-requires-clause-shared
counted-counts-requires-clause-shared c = (few_counts c.loop-i.counts c.args.names.now c.loop-i.i c.loop-i.invariant.1 c.requires).0

pub counted-counts-requires-clause-functions : goal.counted-counts-requires-clause-functions
counted-counts-requires-clause-functions c = (few_counts c.loop-i.counts c.args.names.now c.loop-i.i c.loop-i.invariant.1 c.requires).1

pub counted-counts-requires-clause-tasks : goal.counted-counts-requires-clause-tasks
counted-counts-requires-clause-tasks c = (few_counts c.loop-i.counts c.args.names.now c.loop-i.i c.loop-i.invariant.1 c.requires).2

pub counted-counts-requires-clause-locals : goal.counted-counts-requires-clause-locals
counted-counts-requires-clause-locals c = (few_counts c.loop-i.counts c.args.names.now c.loop-i.i c.loop-i.invariant.1 c.requires).3

pub loop-i-preserved : goal.loop-i-preserved
loop-i-preserved c =
    globals_back c.args.source.now c.args.names.now c.loop-i.i _ c.loop-i-test.true (omega arith)
    (get_or_default c.args.names.now (c.loop-i.i - 1) _ _ (omega arith)) _
    c.loop-i.globals c.set_global.new.globals c.loop-i.counts _ c.loop-i.invariant.0 c.loop-i.invariant.1 _ c.global_by-global.ensures c.text_of.result.now
    c.text_of.ensures c.in_ok-set_global.ensures
    c.counted-counts.ensures.shared c.counted-counts.ensures.functions c.counted-counts.ensures.tasks c.counted-counts.ensures.locals (omega arith)

pub returns : goal.returns
returns c = let e : c.loop-i.i ≡ zero = omega arith in
    subst (λ i. HasGlobals c.args.source.now (drop i c.args.names.now) c.loop-i.globals) e c.loop-i.invariant.0
