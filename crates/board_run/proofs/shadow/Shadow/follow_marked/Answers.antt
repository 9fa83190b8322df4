use Rattle.std.proofs.Common.{◌∙◌, ap, sym, arith, length, slice_index}
use Rattle.board_run.proofs.Marks.{followed_first, followed_next, followed_all, followed_none}
use Rattle.board_run.proofs.shadow.Shadow.follow_marked.Goals as goal

pub loop-place-init : goal.loop-place-init
loop-place-init c = followed_first _ _ _ c.whole.ensures c.requires c.next-place.ensures.none

pub loop-place-preserved : goal.loop-place-preserved
loop-place-preserved c =
    followed_next _ _ _ _ _ _ c.loop-place.invariant c.loop-place-test.true (ap (λ f. slice_index f c.loop-place.place) c.fram-fram.ensures.value)
    c.put.ensures c.next-place-in-loop-place.ensures.none

pub returns-clause-words : goal.returns-clause-words
returns-clause-words c = followed_all _ _ _ c.loop-place.invariant (omega (arith, c.loop-place-test.false))
    (ap length (sym c.fram-fram.ensures.value) ∙ c.fram-fram.ensures.len)

pub returns-clause-none : goal.returns-clause-none
returns-clause-none c i m = followed_none _ _ _ _ c.loop-place.invariant (omega (arith, c.loop-place-test.false)) m
