use Rattle.std.proofs.Common.{arith, ◌∙◌, sym, length-set}
use Rattle.image_text.proofs.Puts.{put_stop, put_more, put_end}
use Rattle.image_text.proofs.builder.put_once.Goals as goal

pub returns-then-is_some-clause-fine : goal.returns-then-is_some-clause-fine
returns-then-is_some-clause-fine c = sym c.loop-b.invariant.left
    ∙ put_stop _ _ _ _ _ c.loop-b-test.true (omega arith) c.index.ensures c.if-is_some.ensures

pub loop-b-preserved : goal.loop-b-preserved
loop-b-preserved c = record {
  place = omega arith;
  len = simp length-set c.loop-b.invariant.len;
  left = sym (put_more _ _ _ _ _ c.loop-b-test.true (omega arith) c.index.ensures c.if-is_some.ensures) ∙ c.loop-b.invariant.left;
}

pub returns-clause-fine : goal.returns-clause-fine
returns-clause-fine c = sym c.loop-b.invariant.left ∙ put_end _ _ _ _ c.loop-b-test.false
