use Rattle.std.proofs.Common.{◌∙◌, sym, ap, arith}
use Rattle.source_generator.specs.Source.{scalar_texts}
use Rattle.source_generator.proofs.Pieces.{written_more, all_written}
use Rattle.source_generator.proofs.Steps.{draws_left, no_draws, behind_left, behind_none}
use Rattle.source_generator.proofs.source.push_scalars.Goals as goal

pub loop-number-preserved : goal.loop-number-preserved
loop-number-preserved c =
    let k = c.loop-number.number in
    let s = c.loop-number.generator.state in
    record {
      text = written_more _ _ _ _ _ _ c.loop-number.invariant.text c.in_ok-push_scalar.ensures
          (ap (λ ds. scalar_texts k ds) (draws_left 8 k s _ _ (omega arith) c.draw.ensures.value c.draw.ensures.state));
      state = sym (behind_left 8 k s _ (omega arith) c.draw.ensures.state) ∙ c.loop-number.invariant.state;
    }

pub returns-clause-text : goal.returns-clause-text
returns-clause-text c = all_written _ _ _ c.loop-number.invariant.text
    (ap (λ ds. scalar_texts c.loop-number.number ds) (no_draws 8 c.loop-number.number c.loop-number.generator.state (omega arith)))

pub returns-clause-state : goal.returns-clause-state
returns-clause-state c = sym (behind_none 8 c.loop-number.number c.loop-number.generator.state (omega arith)) ∙ c.loop-number.invariant.state
