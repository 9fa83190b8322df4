use Rattle.std.proofs.Common.{◌≡◌, ◌+◌, ◌*◌, ◌≤◌, drop, length}
use Rattle.memory_map.specs.Spots.{private_words}
use Rattle.source_needs.proofs.runs.word_count.Given as goal

abbrev pub invariant-loop-i : goal.invariant-loop-i
invariant-loop-i l = record {
  value : l.words ≡ private_words (drop l.i l.privates);
  low : l.words + 2 * l.i ≤ 2 * length l.privates;
}
