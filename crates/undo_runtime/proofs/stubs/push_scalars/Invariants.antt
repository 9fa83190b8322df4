use Rattle.std.proofs.Common.{◌≡◌, ◌+◌, ◌++◌, drop}
use Rattle.memory_map.specs.Spots.{private_words}
use Rattle.undo_runtime.specs.Entries.{homes_in}
use Rattle.undo_runtime.specs.Listing.{logs_in}
use Rattle.undo_runtime.proofs.stubs.push_scalars.Given as goal

abbrev pub invariant-loop-scalar : goal.invariant-loop-scalar
invariant-loop-scalar l = record {
  code : l.code.items ++ logs_in l.layout l.entry (homes_in (drop l.scalar-index l.privates)) ≡ l.fn.code.items
      ++ logs_in l.fn.layout 0 (homes_in l.fn.privates);
  words : l.entry + private_words (drop l.scalar-index l.privates) ≡ private_words l.fn.privates;
}
