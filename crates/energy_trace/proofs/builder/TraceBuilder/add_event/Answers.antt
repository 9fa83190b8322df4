use Rattle.std.proofs.Common.{◌≤◌, List, arith, subst, sym}
use Rattle.std.specs.List.Sorted.{IsNonDecreasingBy}
use Rattle.energy_trace.specs.TraceValue.{Event, last_step}
use Rattle.energy_trace.proofs.Steps.{order_more}
use Rattle.energy_trace.proofs.builder.TraceBuilder.add_event.Goals as goal

pub check-requires-clause-order : goal.check-requires-clause-order
check-requires-clause-order c =
    let now = c.if-more-last_step.false in
    let last = c.last_step.ensures in
    let after : last_step c.args.self.now.events.items ≤ c.args.more.0 = omega (arith, now, last) in
    let P : List Event → Type 0 = λ es. IsNonDecreasingBy (λ e. e.0) es in
    subst P (sym c.in_ok-push.ensures.items) (order_more c.args.self.now.events.items c.args.more c.requires.limits.order after)
