use Rattle.std.proofs.Common.{◌≡◌, ◌+◌, drop}
use Rattle.memory_map.specs.Spots.{private_words}
use Rattle.undo_runtime.proofs.stubs.words_of.Given as goal

abbrev pub invariant-loop-scalar : goal.invariant-loop-scalar
invariant-loop-scalar l = l.words + private_words (drop l.scalar-index l.privates) ≡ private_words l.privates
