use Rattle.std.proofs.Common.{◌≡◌, ◌++◌, ◌∷◌, [], drop}
use Rattle.image_map.specs.MapValue.{are_scalars}
use Rattle.image_map.proofs.map.are_scalars.Given as goal

abbrev pub invariant-loop-v : goal.invariant-loop-v
invariant-loop-v l = are_scalars (l.left ++ l.last ∷ []) (drop l.v-index l.variables) ≡ are_scalars (l.names ++ l.last ∷ []) l.variables
