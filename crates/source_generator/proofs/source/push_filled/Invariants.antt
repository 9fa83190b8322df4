use Rattle.std.proofs.Common.{◌≡◌, ◌++◌, drop}
use Rattle.source_generator.specs.Source.{filled}
use Rattle.source_generator.proofs.source.push_filled.Given as goal

abbrev pub invariant-loop-letter : goal.invariant-loop-letter
invariant-loop-letter l = l.out.items ++ filled l.draw (drop l.letter-index l.text) ≡ l.fn.out.items ++ filled l.draw l.text
