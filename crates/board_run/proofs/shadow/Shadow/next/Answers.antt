use Rattle.std.proofs.Common.{arith}
use Rattle.board_run.proofs.Marks.{none_further}
use Rattle.board_run.proofs.shadow.Shadow.next.Goals as goal

pub loop-place-init : goal.loop-place-init
loop-place-init c = record { later = omega arith; none = λ i low high m. omega arith }

pub loop-place-preserved : goal.loop-place-preserved
loop-place-preserved c = record {
  later = omega (arith, c.loop-place.invariant.later, c.behind-behind.ensures.later);
  none = none_further _ _ _ _ c.loop-place.invariant.none c.behind-behind.ensures.none;
}
