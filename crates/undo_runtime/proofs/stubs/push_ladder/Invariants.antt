use Rattle.std.proofs.Common.{◌≡◌, ◌+◌, ◌<◌, ◌++◌, drop, map}
use Rattle.runtime_code.specs.Ladder.{ladder}
use Rattle.undo_runtime.specs.Entries.{task_of}
use Rattle.undo_runtime.specs.Listing.{rungs, stubs_bytes}
use Rattle.undo_runtime.proofs.stubs.push_ladder.Given as goal

abbrev pub invariant-loop-task : goal.invariant-loop-task
invariant-loop-task l = record {
  code : l.code.items ++ ladder l.stub (rungs l.layout (map task_of (drop l.task-index l.tasks))) ≡ l.fn.code.items
      ++ ladder l.fn.at (rungs l.fn.layout (map task_of l.fn.tasks));
  room : l.stub + stubs_bytes (map task_of (drop l.task-index l.tasks)) < 65536;
}
