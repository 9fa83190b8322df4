use Rattle.std.proofs.Common.{◌≡◌, length}
use Rattle.text_parts.specs.Lines.{lines}
use Rattle.image_text.specs.Reading.{are_blank}
use Rattle.image_text.proofs.parse.are_blank.Given as goal

abbrev pub invariant-loop-line : goal.invariant-loop-line
invariant-loop-line l = are_blank (lines l.rest) ≡ are_blank (lines l.text)

abbrev pub decreases-loop-line : goal.decreases-loop-line
decreases-loop-line l = length l.rest
