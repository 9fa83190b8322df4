use Rattle.std.proofs.Common.{◌∙◌, sym}
use Rattle.image_text.proofs.Lines.{blank_end, blank_not, blank_more}
use Rattle.image_text.proofs.parse.are_blank.Goals as goal

pub returns-then-not-is_blank_line : goal.returns-then-not-is_blank_line
returns-then-not-is_blank_line c = sym (blank_not _ _ _ _ c.in-Some.ensures.cut.0 c.is_blank_line.ensures c.if-not-is_blank_line.true) ∙ c.loop-line.invariant

pub loop-line-preserved : goal.loop-line-preserved
loop-line-preserved c = blank_more _ _ _ _ c.in-Some.ensures.cut.0 c.is_blank_line.ensures c.if-not-is_blank_line.false ∙ c.loop-line.invariant

pub returns : goal.returns
returns c = sym (blank_end _ c.in_default.ensures.cut) ∙ c.loop-line.invariant
