use Rattle.std.proofs.Common.{arith, subst, drop, zero, ◌≡◌, ◌-◌}
use Rattle.std.proofs.lemmas.List.{get_or_default}
use Rattle.task_check.specs.Tables.{HasTypes}
use Rattle.task_check.proofs.Tables.{types_none, types_back}
use Rattle.task_check.proofs.types.table_of.Goals as goal

pub loop-i-init : goal.loop-i-init
loop-i-init c = types_none c.args.source.now c.args.shared.now c.empty-table.result c.empty-table.ensures

pub loop-i-preserved : goal.loop-i-preserved
loop-i-preserved c =
    types_back c.args.source.now c.args.shared.now c.loop-i.i _ c.loop-i-test.true (omega arith)
    (get_or_default c.args.shared.now (c.loop-i.i - 1) _ _ (omega arith)) c.loop-i.table c.set.new.table c.loop-i.invariant
    c.text_of.result.now c.text_of.ensures c.in_ok-set.ensures

pub returns : goal.returns
returns c = let e : c.loop-i.i ≡ zero = omega arith in
    subst (λ i. HasTypes c.args.source.now (drop i c.args.shared.now) c.loop-i.table) e c.loop-i.invariant
