use Rattle.std.proofs.Common.{◌≡◌, ◌++◌, map, length}
use Rattle.text_parts.specs.Groups.{groups}
use Rattle.text_parts.specs.Hex.{upper_hex}
use Rattle.text_parts.specs.Printed.{printed}
use Rattle.image_text.specs.Text.{bytes_in}
use Rattle.image_text.proofs.print.push_words.Given as goal

abbrev pub invariant-loop-line : goal.invariant-loop-line
invariant-loop-line l = l.out.items ++ printed (map (map upper_hex) (map bytes_in (groups 8 l.rest))) ≡ l.fn.out.items
    ++ printed (map (map upper_hex) (map bytes_in (groups 8 l.words)))

abbrev pub decreases-loop-line : goal.decreases-loop-line
decreases-loop-line l = length l.rest
