use Rattle.std.proofs.Common.{sym, subst, ap, arith, length}
use Rattle.std.proofs.lemmas.List.{get_or_default}
use Rattle.task_ast.specs.View.{block_view}
use Rattle.war_analysis.specs.Plans.{IsPrivateIn}
use Rattle.war_analysis.proofs.Numbers.{AreNumbersBelow, none_below, all_numbers}
use Rattle.war_analysis.proofs.Steps.{next_private, private_within, sums_at}
use Rattle.war_analysis.proofs.analysis.private_scalars.Goals as goal

pub loop-i-init : goal.loop-i-init
loop-i-init c = λ fs known calls.
    let P = IsPrivateIn fs c.args.shared.now (block_view c.args.body.now) in
    subst (λ xs. AreNumbersBelow P 0 xs) (sym c.new-numbers.ensures.items) (none_below P)

pub loop-i-preserved : goal.loop-i-preserved
loop-i-preserved c = λ fs known calls.
    let sums = sums_at fs (length c.args.shared.now) c.loop-i.i c.args.sums.now c.index-sums-i.result c.deref.result.now known c.loop-i-test.true
    c.index-sums-i.is c.deref.ensures.value in
    next_private fs c.args.shared.now (block_view c.args.body.now) c.loop-i.i _ c.is_private-private.result c.is_private_scalar-found.result
    c.loop-i.numbers.items c.push_if.new.numbers.items
    c.loop-i-test.true (λ d. ap (λ x. x.extent) (get_or_default c.args.shared.now c.loop-i.i _ d c.loop-i-test.true))
    c.in_ok-push_if.ensures (c.is_private-private.ensures fs sums calls) c.is_private_scalar-found.ensures (c.loop-i.invariant fs known calls)

pub returns : goal.returns
returns c = λ fs known calls.
    all_numbers (IsPrivateIn fs c.args.shared.now (block_view c.args.body.now)) c.loop-i.i c.loop-i.numbers.items (c.loop-i.invariant fs known calls)
    (λ i p. let l = private_within fs c.args.shared.now (block_view c.args.body.now) i p in omega arith)
