use Rattle.std.proofs.Common.{◌∙◌, ◌+◌, ap, arith}
use Rattle.dearest_ways.proofs.Priced.{bit_small, bit_turned}
use Rattle.dearest_ways.proofs.program.bits_in.Goals as goal

pub loop-turn-preserved : goal.loop-turn-preserved
loop-turn-preserved c = record {
  owed = bit_turned c.loop-turn.turn c.loop-turn.bits c.loop-turn.left _ c.loop-turn-test.true (ap (λ x. c.loop-turn.bits + x) c.bit_left-bits.ensures)
      ∙ c.loop-turn.invariant.owed;
  low = omega (arith, c.loop-turn.invariant.low, c.bit_left-bits.ensures, bit_small c.loop-turn.left);
}
