use Rattle.std.proofs.Common.{arith, ◌∙◌, sym, Err}
use Rattle.std.proofs.lemmas.Result.{err_from_is_err_and}
use Rattle.text_parts.specs.Lines.{lines}
use Rattle.image_text.specs.declared.fault.ImageFault.TheVariants as fault
use Rattle.image_text.proofs.Meanings.{front_is}
use Rattle.image_text.proofs.Lines.{read_end, read_fault, read_next, read_quit}
use Rattle.image_text.specs.Read.{read_front}
use Rattle.image_text.specs.Reading.{Gives, front_of}
use Rattle.image_text.proofs.parse.read_front.Goals as goal

pub returns-in_err-goes_on-clause-value : goal.returns-in_err-goes_on-clause-value
returns-in_err-goes_on-clause-value c =
    let p = err_from_is_err_and c.from_residual-in_err-goes_on.result c.from_residual-in_err-goes_on.ensures.1 in
    rw (p.1, p.2, ← c.loop-line.invariant.left) (read_fault _ _ _ _ _ _ c.in-Some.ensures.cut.0 c.in_err-goes_on.ensures.value)

pub returns-in_err-goes_on-clause-meaning : goal.returns-in_err-goes_on-clause-meaning
returns-in_err-goes_on-clause-meaning c =
    let p = err_from_is_err_and c.from_residual-in_err-goes_on.result c.from_residual-in_err-goes_on.ensures.1 in
    let value : Gives read_front c.from_residual-in_err-goes_on.result (front_of (lines c.args.text.now)) =
    rw (p.1, p.2, ← c.loop-line.invariant.left) (read_fault _ _ _ _ _ _ c.in-Some.ensures.cut.0 c.in_err-goes_on.ensures.value) in
    front_is c.from_residual-in_err-goes_on.result (lines c.args.text.now) value

pub returns-then-not-goes_on-clause-value : goal.returns-then-not-goes_on-clause-value
returns-then-not-goes_on-clause-value c =
    rw (← c.loop-line.invariant.left, read_quit _ _ _ _ _ _ _ c.in-Some.ensures.cut.0 c.in_ok-goes_on.ensures.value c.if-not-goes_on.true)
    (rw c.as_slice.ensures.value at c.finish.ensures.value)

pub returns-then-not-goes_on-clause-meaning : goal.returns-then-not-goes_on-clause-meaning
returns-then-not-goes_on-clause-meaning c =
    let value : Gives read_front c.finish.result (front_of (lines c.args.text.now)) =
    rw (← c.loop-line.invariant.left, read_quit _ _ _ _ _ _ _ c.in-Some.ensures.cut.0 c.in_ok-goes_on.ensures.value c.if-not-goes_on.true)
    (rw c.as_slice.ensures.value at c.finish.ensures.value) in
    front_is c.finish.result (lines c.args.text.now) value

pub loop-line-preserved : goal.loop-line-preserved
loop-line-preserved c = record {
  len = c.add_line.ensures.len;
  number = omega (arith, c.in-Some.ensures.cut.1);
  left = read_next _ _ _ _ _ _ _ c.in-Some.ensures.cut.0 c.in_ok-goes_on.ensures.value c.if-not-goes_on.false ∙ c.loop-line.invariant.left;
}

pub returns-clause-value : goal.returns-clause-value
returns-clause-value c = sym c.loop-line.invariant.left ∙ read_end _ _ _ c.in_default.ensures.cut

pub returns-clause-meaning : goal.returns-clause-meaning
returns-clause-meaning c =
    front_is (Err (fault.BadLine c.loop-line.n)) (lines c.args.text.now) (sym c.loop-line.invariant.left ∙ read_end _ _ _ c.in_default.ensures.cut)
