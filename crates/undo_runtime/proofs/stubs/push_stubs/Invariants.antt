use Rattle.std.proofs.Common.{◌≡◌, ◌++◌, drop, map}
use Rattle.runtime_code.specs.Ladder.{all_stubs}
use Rattle.undo_runtime.specs.Entries.{task_of}
use Rattle.undo_runtime.specs.Listing.{rungs}
use Rattle.undo_runtime.proofs.stubs.push_stubs.Given as goal

abbrev pub invariant-loop-task : goal.invariant-loop-task
invariant-loop-task l = l.code.items ++ all_stubs (rungs l.layout (map task_of (drop l.task-index l.tasks))) ≡ l.fn.code.items
    ++ all_stubs (rungs l.fn.layout (map task_of l.fn.tasks))
