use Rattle.std.proofs.Common.{◌≡◌, ◌+◌, length, drop}
use Rattle.fram_state.specs.Laid.{with_row}
use Rattle.fram_state.proofs.laid.put_row.Given as goal

abbrev pub invariant-loop-i : goal.invariant-loop-i
invariant-loop-i l = record {
  row : with_row (l.place + l.i) (drop l.i l.row) l.words ≡ with_row l.place l.row l.fn.words;
  len : length l.words ≡ length l.fn.words;
}
