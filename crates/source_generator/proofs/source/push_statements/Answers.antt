use Rattle.std.proofs.Common.{◌∙◌, sym, ap, arith}
use Rattle.std.specs.Prelude.{flat_map}
use Rattle.source_generator.specs.Source.{statement_text}
use Rattle.source_generator.proofs.Pieces.{written_more, all_written}
use Rattle.source_generator.proofs.Steps.{draws_left, no_draws, behind_left, behind_none}
use Rattle.source_generator.proofs.source.push_statements.Goals as goal

pub loop-statement-preserved : goal.loop-statement-preserved
loop-statement-preserved c =
    let k = c.loop-statement._statement in
    let s = c.loop-statement.generator.state in
    record {
      text = written_more _ _ _ _ _ _ c.loop-statement.invariant.text c.in_ok-push_statement.ensures
          (ap (λ ds. flat_map statement_text ds) (draws_left 6 k s _ _ (omega arith) c.draw.ensures.value c.draw.ensures.state));
      state = sym (behind_left 6 k s _ (omega arith) c.draw.ensures.state) ∙ c.loop-statement.invariant.state;
    }

pub returns-clause-text : goal.returns-clause-text
returns-clause-text c = all_written _ _ _ c.loop-statement.invariant.text
    (ap (λ ds. flat_map statement_text ds) (no_draws 6 c.loop-statement._statement c.loop-statement.generator.state (omega arith)))

pub returns-clause-state : goal.returns-clause-state
returns-clause-state c = sym (behind_none 6 c.loop-statement._statement c.loop-statement.generator.state (omega arith)) ∙ c.loop-statement.invariant.state
