use Rattle.std.proofs.Common.{arith, ◌∙◌}
use Rattle.state_text.proofs.Blanks.{blanks_end, blanks_stop, blanks_more}
use Rattle.state_text.proofs.parse.behind_blanks.Goals as goal

pub returns-then-not-is_blank_line-clause-value : goal.returns-then-not-is_blank_line-clause-value
returns-then-not-is_blank_line-clause-value c =
    blanks_stop _ _ _ _ _ c.in-Some.ensures.cut.0 c.is_blank_line.ensures c.if-not-is_blank_line.true ∙ c.loop-line.invariant.left

pub loop-line-preserved : goal.loop-line-preserved
loop-line-preserved c = record {
  room = omega (arith, c.in-Some.ensures.cut.1);
  left = blanks_more _ _ _ _ _ c.in-Some.ensures.cut.0 c.is_blank_line.ensures c.if-not-is_blank_line.false ∙ c.loop-line.invariant.left;
}

pub returns-clause-value : goal.returns-clause-value
returns-clause-value c = blanks_end _ _ c.in_default.ensures.cut ∙ c.loop-line.invariant.left
