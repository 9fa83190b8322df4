use Rattle.std.proofs.Common.{◌∙◌, sym, arith}
use Rattle.image_text.proofs.Digits.{digit_more, value_more}
use Rattle.image_text.proofs.line.hex_value.Goals as goal

pub overflow_mul-value : goal.overflow_mul-value
overflow_mul-value c = let h = digit_more c.loop-d.d-index c.loop-d.value 0 (omega (arith, c.requires, c.loop-d-test.true)) c.loop-d.invariant.small
    (omega arith) in omega (arith, h.1)

pub overflow_add-value : goal.overflow_add-value
overflow_add-value c = let h = digit_more c.loop-d.d-index c.loop-d.value c.in_ok-value.field-0 (omega (arith, c.requires, c.loop-d-test.true))
    c.loop-d.invariant.small c.in_ok-value.ensures.digit in omega (arith, h.1)

pub loop-d-preserved : goal.loop-d-preserved
loop-d-preserved c = record {
  small = (digit_more c.loop-d.d-index c.loop-d.value c.in_ok-value.field-0 (omega (arith, c.requires, c.loop-d-test.true)) c.loop-d.invariant.small
      c.in_ok-value.ensures.digit).0;
  left = value_more c.loop-d.value c.loop-d.d-index c.in_ok-value.field-0 c.args.digits.now c.loop-d-test.true (sym c.in_ok-value.ensures.value)
      ∙ c.loop-d.invariant.left;
}
