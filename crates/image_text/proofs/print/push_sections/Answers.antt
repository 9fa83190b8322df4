use Rattle.std.proofs.Common.{◌∙◌, arith}
use Rattle.std.proofs.lemmas.Result.{on_ok_weaker}
use Rattle.text_parts.proofs.Interface.{added}
use Rattle.image_text.proofs.Printed.{text_begins, text_more, text_end}
use Rattle.image_text.proofs.print.push_sections.Goals as goal

pub loop-at-init : goal.loop-at-init
loop-at-init c = record {
  room = omega (arith, c.requires);
  left = text_begins _ _;
}

pub loop-at-preserved : goal.loop-at-preserved
loop-at-preserved c = record {
  room = c.in-Some.ensures.shorter.2 ∙ c.loop-at.invariant.room;
  left = text_more _ _ _ _ _ _ c.loop-at.invariant.left c.in-Some.ensures.cut c.in_ok-push_section.ensures;
}

pub returns-clause-text : goal.returns-clause-text
returns-clause-text c = on_ok_weaker c.extend_from_slice.result (text_end _ _ _ _ c.loop-at.invariant.left c.in_default.ensures.cut)
    (added _ _ _ _ c.extend_from_slice.ensures.items)
