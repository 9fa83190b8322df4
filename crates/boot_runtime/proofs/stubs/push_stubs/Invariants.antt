use Rattle.std.proofs.Common.{◌≡◌, ◌++◌, drop, map}
use Rattle.boot_runtime.specs.Entries.{entry_of}
use Rattle.boot_runtime.specs.Listing.{stubs}
use Rattle.boot_runtime.proofs.stubs.push_stubs.Given as goal

abbrev pub invariant-loop-task : goal.invariant-loop-task
invariant-loop-task l = l.code.items ++ stubs (map entry_of (drop l.task-index l.tasks)) ≡ l.fn.code.items
    ++ stubs (map entry_of l.fn.tasks)
