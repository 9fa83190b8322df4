use Rattle.std.proofs.Common.{◌≡◌, ◌≤◌, ◌+◌, length}
use Rattle.text_parts.specs.Lines.{lines}
use Rattle.radio_link.specs.Reading.{read, schedule_of}
use Rattle.radio_link.proofs.parse.parse_schedule.Given as goal

abbrev pub invariant-loop-line : goal.invariant-loop-line
invariant-loop-line l = record {
  limit : length l.into.items ≤ 65536;
  rest : read l.n l.into.items (lines l.rest) ≡ schedule_of l.text;
  number : l.n + length l.rest ≤ length l.text + 1;
}

abbrev pub decreases-loop-line : goal.decreases-loop-line
decreases-loop-line l = length l.rest
