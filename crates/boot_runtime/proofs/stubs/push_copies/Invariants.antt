use Rattle.std.proofs.Common.{◌≡◌, ◌++◌, drop}
use Rattle.std.specs.List.{flat_map}
use Rattle.runtime_code.specs.runtime_effects.Places.{scalar_pairs}
use Rattle.boot_runtime.specs.Listing.{copies_in}
use Rattle.boot_runtime.proofs.stubs.push_copies.Given as goal

abbrev pub invariant-loop-scalar : goal.invariant-loop-scalar
invariant-loop-scalar l = l.code.items ++ copies_in (flat_map scalar_pairs (drop l.scalar-index l.privates)) ≡ l.fn.code.items
    ++ copies_in (flat_map scalar_pairs l.fn.privates)
