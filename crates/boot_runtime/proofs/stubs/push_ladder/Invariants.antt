use Rattle.std.proofs.Common.{◌≡◌, ◌+◌, ◌<◌, ◌++◌, drop, map}
use Rattle.boot_runtime.specs.Entries.{entry_of}
use Rattle.boot_runtime.specs.Listing.{ladder_to, stubs_bytes}
use Rattle.boot_runtime.proofs.stubs.push_ladder.Given as goal

abbrev pub invariant-loop-task : goal.invariant-loop-task
invariant-loop-task l = record {
  code : l.code.items ++ ladder_to l.stub (map entry_of (drop l.task-index l.tasks)) ≡ l.fn.code.items
      ++ ladder_to l.fn.at (map entry_of l.fn.tasks);
  room : l.stub + stubs_bytes (map entry_of (drop l.task-index l.tasks)) < 65536;
}
