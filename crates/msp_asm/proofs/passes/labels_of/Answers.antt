use Rattle.std.proofs.Common.{◌∙◌, sym, ap, arith, option_map}
use Rattle.asm_line.specs.Pieces.{lines_left}
use Rattle.asm_line.specs.Views.{located}
use Rattle.msp_asm.specs.Labels.{label_at}
use Rattle.msp_asm.proofs.Running.{labels_bad, labels_next, labels_end}
use Rattle.msp_asm.proofs.passes.labels_of.Goals as goal

pub returns-in_default-line_of : goal.returns-in_default-line_of
returns-in_default-line_of c = sym (rw c.in-Some.is at c.loop-left.invariant.rest)
    ∙ labels_bad (label_at c.loop-left.labels) c.loop-left.n c.loop-left.address _ _ _ c.cut_line.ensures.lines c.in_default-line_of.ensures

pub loop-left-preserved : goal.loop-left-preserved
loop-left-preserved c = record {
  number = (let n = rw c.in-Some.is at c.loop-left.invariant.number in omega (arith, n, c.cut_line.ensures.shorter));
  rest = labels_next (label_at c.loop-left.labels) _ c.loop-left.n c.loop-left.address _ _ _ _ _ c.cut_line.ensures.lines c.in-Some-line_of.ensures
      c.in_ok-note.ensures c.after-address.ensures
      ∙ (rw c.in-Some.is at c.loop-left.invariant.rest);
}

pub returns : goal.returns
returns c = sym c.loop-left.invariant.rest
    ∙ labels_end (label_at c.loop-left.labels) c.loop-left.n c.loop-left.address _ (ap (λ o. lines_left (option_map located o)) c.in_default.is)
