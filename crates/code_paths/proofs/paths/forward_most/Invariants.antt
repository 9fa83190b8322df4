use Rattle.std.proofs.Common.{◌≡◌, drop}
use Rattle.code_paths.specs.Paths.{costs_of}
use Rattle.code_paths.proofs.paths.forward_most.Given as goal

abbrev pub invariant-loop-i : goal.invariant-loop-i
invariant-loop-i l = l.costs.items ≡ costs_of (drop l.i l.code)
