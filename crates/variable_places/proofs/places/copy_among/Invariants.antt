use Rattle.std.proofs.Common.{◌≡◌, drop}
use Rattle.memory_map.specs.Spots.{copy_among}
use Rattle.variable_places.proofs.places.copy_among.Given as goal

abbrev pub invariant-loop-scalar : goal.invariant-loop-scalar
invariant-loop-scalar l = copy_among (drop l.scalar-index l.privates) l.number ≡ copy_among l.privates l.number
