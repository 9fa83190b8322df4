use Rattle.std.proofs.Common.{◌≡◌, drop, map}
use Rattle.image_map.specs.MapValue.{is_among}
use Rattle.image_map.proofs.map.has_variable.Given as goal

abbrev pub invariant-loop-v : goal.invariant-loop-v
invariant-loop-v l = is_among l.name (map (λ v. v.name) (drop l.v-index l.variables)) ≡ is_among l.name (map (λ v. v.name) l.variables)
