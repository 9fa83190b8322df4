use Rattle.cost_bound.proofs.Called.{call_counted}
use Rattle.cost_bound.proofs.stores.count_call.Goals as goal

pub returns-then-number-functions : goal.returns-then-number-functions
returns-then-number-functions c =
    call_counted c.args.functions.now c.args.name.now.function _ c.args.counts.now c.add_turns.new.counts c.if-number-functions.true c.add_turns.ensures
