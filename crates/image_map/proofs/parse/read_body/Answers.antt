use Rattle.std.proofs.Common.{arith, ◌∙◌, sym}
use Rattle.std.proofs.lemmas.Result.{err_from_is_err_and}
use Rattle.image_map.proofs.Bodies.{body_end, body_fault, body_next, body_done}
use Rattle.image_map.proofs.parse.read_body.Goals as goal

pub returns-in_err-goes_on-clause-value : goal.returns-in_err-goes_on-clause-value
returns-in_err-goes_on-clause-value c =
    let p = err_from_is_err_and c.from_residual.result c.from_residual.ensures.1 in
    rw (p.1, p.2, ← c.loop-line.invariant.left) (body_fault _ _ _ _ _ _ c.in-Some.ensures.cut.0 c.in_err-goes_on.ensures.value)

pub returns-then-not-goes_on-clause-value : goal.returns-then-not-goes_on-clause-value
returns-then-not-goes_on-clause-value c = sym c.loop-line.invariant.left ∙ body_done _ _ _ _ _ _ _ c.in-Some.ensures.cut.0 c.in_ok-goes_on.ensures.value
    c.if-not-goes_on.true

pub loop-line-preserved : goal.loop-line-preserved
loop-line-preserved c = record {
  number = omega (arith, c.in-Some.ensures.cut.1);
  left = body_next _ _ _ _ _ _ _ c.in-Some.ensures.cut.0 c.in_ok-goes_on.ensures.value c.if-not-goes_on.false ∙ c.loop-line.invariant.left;
}

pub returns-clause-value : goal.returns-clause-value
returns-clause-value c = sym c.loop-line.invariant.left ∙ body_end _ _ _ c.in_default.ensures.cut
