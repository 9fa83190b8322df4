use Rattle.std.proofs.Common.{◌≡◌, drop}
use Rattle.code_paths.specs.Paths.{dearest_from}
use Rattle.code_paths.proofs.paths.dearest_there.Given as goal

abbrev pub invariant-loop-i : goal.invariant-loop-i
invariant-loop-i l = dearest_from l.code l.bytes ≡ dearest_from (drop l.i l.code) l.left
