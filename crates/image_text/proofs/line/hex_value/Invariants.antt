use Rattle.std.proofs.Common.{◌≡◌, ◌<◌, ◌^◌, drop}
use Rattle.image_text.specs.Line.{hex_value}
use Rattle.image_text.proofs.line.hex_value.Given as goal

abbrev pub invariant-loop-d : goal.invariant-loop-d
invariant-loop-d l = record {
  small : l.value < 16 ^ l.d-index;
  left : hex_value l.value (drop l.d-index l.digits) ≡ hex_value 0 l.digits;
}
