use Rattle.std.proofs.Common.{◌≡◌, ◌+◌, ◌≤◌, length}
use Rattle.text_parts.specs.Lines.{lines}
use Rattle.image_map.specs.Reading.{body}
use Rattle.image_map.proofs.parse.read_body.Given as goal

abbrev pub invariant-loop-line : goal.invariant-loop-line
invariant-loop-line l = record {
  number : l.at + length l.rest ≤ l.n + length l.text;
  left : body l.at l.map (lines l.rest) ≡ body l.n l.fn.map (lines l.text);
}

abbrev pub decreases-loop-line : goal.decreases-loop-line
decreases-loop-line l = length l.rest
