use Rattle.std.proofs.Common.{◌≡◌, length, drop, map}
use Rattle.fram_state.specs.Migrated.{row_of}
use Rattle.fram_state.specs.Laid.{with_rows}
use Rattle.fram_state.specs.Editions.{edition_of}
use Rattle.fram_state.proofs.laid.put_variables.Given as goal

abbrev pub invariant-loop-k : goal.invariant-loop-k
invariant-loop-k l = record {
  rows : l.words ≡ with_rows (drop l.k l.variables) (map (row_of (edition_of l.old) l.new.text.now) (drop l.k l.shared)) l.fn.words;
  len : length l.words ≡ 24064;
}
