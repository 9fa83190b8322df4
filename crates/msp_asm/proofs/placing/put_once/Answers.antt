use Rattle.std.proofs.Common.{arith, ◌∙◌, sym, length-set}
use Rattle.image_text.proofs.Interface.{put_stop, put_more, put_end}
use Rattle.msp_asm.proofs.placing.put_once.Goals as goal

pub returns-then-is_some-clause-fine : goal.returns-then-is_some-clause-fine
returns-then-is_some-clause-fine c = sym c.loop-w.invariant.left
    ∙ put_stop _ _ _ _ _ c.loop-w-test.true (omega arith) c.index.ensures c.if-is_some.ensures

pub loop-w-preserved : goal.loop-w-preserved
loop-w-preserved c = record {
  place = omega arith;
  len = simp length-set c.loop-w.invariant.len;
  left = sym (put_more _ _ _ _ _ c.loop-w-test.true (omega arith) c.index.ensures c.if-is_some.ensures) ∙ c.loop-w.invariant.left;
}

pub returns-clause-fine : goal.returns-clause-fine
returns-clause-fine c = sym c.loop-w.invariant.left ∙ put_end _ _ _ _ c.loop-w-test.false
