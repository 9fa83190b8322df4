use Rattle.std.proofs.Common.{◌∙◌, sym, ap, arith, option_map}
use Rattle.std.proofs.lemmas.Result.{err_from_is_err_and}
use Rattle.asm_line.specs.Pieces.{lines_left}
use Rattle.asm_line.specs.Views.{located}
use Rattle.msp_asm.specs.Labels.{label_at}
use Rattle.msp_asm.proofs.Running.{placed_bad, placed_fault, placed_next, placed_end}
use Rattle.msp_asm.proofs.passes.words_of.Goals as goal

pub returns-in_default-line_of-clause-value : goal.returns-in_default-line_of-clause-value
returns-in_default-line_of-clause-value c = sym (rw c.in-Some.is at c.loop-left.invariant.rest)
    ∙ placed_bad (label_at c.args.labels.now) c.loop-left.n c.loop-left.address c.loop-left.memory.items _ _ _ c.cut_line.ensures.lines
    c.in_default-line_of.ensures

pub returns-in_err-line_into-clause-value : goal.returns-in_err-line_into-clause-value
returns-in_err-line_into-clause-value c =
    let p = err_from_is_err_and c.from_residual-in_err-line_into.result c.from_residual-in_err-line_into.ensures.1 in
    let before = rw c.in-Some.is at c.loop-left.invariant.rest in
    rw (p.1, p.2, ← before)
    (placed_fault (label_at c.args.labels.now) c.loop-left.n c.loop-left.address c.loop-left.memory.items _ _ _ _ _ c.cut_line.ensures.lines
    c.in-Some-line_of.ensures c.in_err-line_into.ensures.value)

pub loop-left-preserved : goal.loop-left-preserved
loop-left-preserved c = record {
  number = (let n = rw c.in-Some.is at c.loop-left.invariant.number in omega (arith, n, c.cut_line.ensures.shorter));
  len = c.line_into.ensures.len;
  rest = placed_next (label_at c.args.labels.now) c.loop-left.n c.loop-left.address _ c.loop-left.memory.items _ _ _ _ _ c.cut_line.ensures.lines
      c.in-Some-line_of.ensures c.in_ok-line_into.ensures.value c.after-address.ensures
      ∙ (rw c.in-Some.is at c.loop-left.invariant.rest);
}

pub returns-clause-value : goal.returns-clause-value
returns-clause-value c = sym c.loop-left.invariant.rest
    ∙ placed_end (label_at c.args.labels.now) c.loop-left.n c.loop-left.address c.loop-left.memory.items _
    (ap (λ o. lines_left (option_map located o)) c.in_default.is)
