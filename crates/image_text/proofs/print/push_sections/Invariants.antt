use Rattle.std.proofs.Common.{◌≡◌, ◌+◌, ◌++◌, length}
use Rattle.text_parts.specs.Printed.{printed}
use Rattle.image_text.specs.Text.{sections, lines_of_sections, text_of}
use Rattle.image_text.proofs.print.push_sections.Given as goal

abbrev pub invariant-loop-at : goal.invariant-loop-at
invariant-loop-at l = record {
  room : l.place + length l.rest ≡ 24064;
  left : l.out.items ++ printed (lines_of_sections (sections l.place l.rest)) ≡ l.fn.out.items ++ text_of l.words;
}

abbrev pub decreases-loop-at : goal.decreases-loop-at
decreases-loop-at l = length l.rest
