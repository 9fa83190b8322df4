use Rattle.std.proofs.Common.{◌∙◌, sym, ap, Ok}
use Rattle.std.proofs.lemmas.Result.{err_from_is_err_and}
use Rattle.msp_asm.specs.Labels.{label_at}
use Rattle.msp_asm.specs.Assembled.{all_words}
use Rattle.msp_asm.proofs.Running.{assembled_bad, assembled_fault, assembled_done}
use Rattle.msp_asm.proofs.assembler.assemble.Goals as goal

pub returns-in_err-labels-clause-value : goal.returns-in_err-labels-clause-value
returns-in_err-labels-clause-value c =
    let p = err_from_is_err_and c.from_residual.result c.from_residual.ensures.1 in
    rw (p.1, p.2) (assembled_bad _ c.args.text.now _ c.whole-whole.ensures c.in_err-labels.ensures)

pub returns-in_err-memory-clause-value : goal.returns-in_err-memory-clause-value
returns-in_err-memory-clause-value c =
    let p = err_from_is_err_and c.from_residual-in_err-memory.result c.from_residual-in_err-memory.ensures.1 in
    rw (p.1, p.2) (assembled_fault _ (label_at c.in_ok-labels.labels) c.args.text.now _ c.whole-whole.ensures c.in_ok-labels.ensures
    c.in_err-memory.ensures.value)

pub returns-clause-value : goal.returns-clause-value
returns-clause-value c = assembled_done (label_at c.in_ok-labels.labels) c.in_ok-memory.memory.items c.args.text.now _ c.whole-whole.ensures
    c.in_ok-labels.ensures c.in_ok-memory.ensures.value
    ∙ ap Ok (sym (ap (λ image. image.words) c.of.ensures ∙ c.in_ok-all_words.ensures.value ∙ ap all_words c.as_slice.ensures.value))
