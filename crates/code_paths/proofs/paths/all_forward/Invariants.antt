use Rattle.std.proofs.Common.{◌≡◌, drop}
use Rattle.code_paths.specs.Paths.{all_forward}
use Rattle.code_paths.proofs.paths.all_forward.Given as goal

abbrev pub invariant-loop-i : goal.invariant-loop-i
invariant-loop-i l = l.forward ≡ all_forward (drop l.i l.code)
