use Rattle.std.proofs.Common.{◌∙◌, sym, arith}
use Rattle.source_generator.proofs.Pieces.{written_more, all_written}
use Rattle.source_generator.proofs.Steps.{draws_left, no_draws, behind_left, behind_none}
use Rattle.source_generator.proofs.trace.readings_of.Goals as goal

pub loop-reading-preserved : goal.loop-reading-preserved
loop-reading-preserved c =
    let k = c.loop-reading._reading in
    let s = c.loop-reading.generator.state in
    record {
      readings = written_more _ _ _ _ _ _ c.loop-reading.invariant.readings c.in_ok-push.ensures.items
          (draws_left 512 k s _ _ (omega arith) c.draw.ensures.value c.draw.ensures.state);
      state = sym (behind_left 512 k s _ (omega arith) c.draw.ensures.state) ∙ c.loop-reading.invariant.state;
    }

pub returns-clause-readings : goal.returns-clause-readings
returns-clause-readings c = all_written _ _ _ c.loop-reading.invariant.readings
    (no_draws 512 c.loop-reading._reading c.loop-reading.generator.state (omega arith))

pub returns-clause-state : goal.returns-clause-state
returns-clause-state c = sym (behind_none 512 c.loop-reading._reading c.loop-reading.generator.state (omega arith)) ∙ c.loop-reading.invariant.state
