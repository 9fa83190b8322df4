use Rattle.std.proofs.Common.{◌≡◌, drop, true}
use Rattle.image_map.specs.Line.{single_from}
use Rattle.image_map.proofs.line.is_single_spaced.Given as goal

abbrev pub invariant-loop-b : goal.invariant-loop-b
invariant-loop-b l = single_from l.apart (drop l.b-index l.line) ≡ single_from true l.line
