use Rattle.std.proofs.Common.{arith}
use Rattle.source_generator.proofs.Pieces.{written_more, all_written}
use Rattle.source_generator.proofs.Steps.{charges_left, no_charges}
use Rattle.source_generator.proofs.trace.charges_of.Goals as goal

pub loop-charge-preserved : goal.loop-charge-preserved
loop-charge-preserved c = written_more _ _ _ _ _ _ c.loop-charge.invariant c.in_ok-push.ensures.items
    (charges_left 256 c.loop-charge._charge c.args.bound c.loop-charge.generator.state _ _ (omega arith) c.charge_of.ensures.charge c.charge_of.ensures.state)

pub returns : goal.returns
returns c = all_written _ _ _ c.loop-charge.invariant (no_charges 256 c.loop-charge._charge c.args.bound c.loop-charge.generator.state (omega arith))
