use Rattle.std.proofs.Common.{◌≡◌, ◌+◌, ◌≤◌, length, vec_len}
use Rattle.text_parts.specs.Lines.{lines}
use Rattle.image_text.specs.Builder.{placed}
use Rattle.image_text.specs.Reading.{read, front_of}
use Rattle.image_text.proofs.parse.read_front.Given as goal

abbrev pub invariant-loop-line : goal.invariant-loop-line
invariant-loop-line l = record {
  number : l.n + length l.rest ≤ 1 + length l.text;
  len : vec_len l.builder.memory ≡ 48128;
  left : read l.n (placed l.builder) (lines l.rest) ≡ front_of (lines l.text);
}

abbrev pub decreases-loop-line : goal.decreases-loop-line
decreases-loop-line l = length l.rest
