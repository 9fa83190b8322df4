use Rattle.std.proofs.Common.{◌≡◌, ◌*◌, ◌++◌, drop, length}
use Rattle.image_text.specs.Reading.{words_of}
use Rattle.image_text.proofs.parse.words_of.Given as goal

abbrev pub invariant-loop-i : goal.invariant-loop-i
invariant-loop-i l = record {
  len : length l.words.items ≡ l.i;
  left : l.words.items ++ words_of (drop (2 * l.i) l.memory) ≡ words_of l.memory;
}
