use Rattle.std.proofs.Common.{◌≡◌, ◌<◌, ◌+◌, length}
use Rattle.text_parts.specs.Lines.{lines}
use Rattle.state_text.specs.Reading.{behind_blanks}
use Rattle.state_text.proofs.parse.behind_blanks.Given as goal

abbrev pub invariant-loop-line : goal.invariant-loop-line
invariant-loop-line l = record {
  room : l.at + length l.rest < 4294967296;
  left : behind_blanks l.at (lines l.rest) ≡ behind_blanks l.n (lines l.text);
}

abbrev pub decreases-loop-line : goal.decreases-loop-line
decreases-loop-line l = length l.rest
