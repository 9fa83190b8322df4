use Rattle.std.proofs.Common.{◌<◌, length, arith}
use Rattle.fram_state.proofs.Answered.{none_before, some_below, excluded}
use Rattle.fram_state.proofs.migration.first_unsettled.Goals as goal

pub loop-i-preserved : goal.loop-i-preserved
loop-i-preserved c =
    none_before c.loop-i.i c.loop-i.invariant (excluded c.in_ok-is_unsettled.field-0 _ c.in_ok-is_unsettled.ensures c.if-branch.false)

pub returns-clause-none : goal.returns-clause-none
returns-clause-none c = λ i u.
    let less : i < length c.args.new.now.source.now.shared.items = some_below c.args.new.now.source.now.shared.items i u.scalar u.is in
    c.loop-i.invariant i (omega (arith, c.loop-i-test.false, c.len-i-end.ensures, less)) u
