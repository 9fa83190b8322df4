use Rattle.std.proofs.Common.{◌≡◌, drop, map}
use Rattle.image_map.specs.MapValue.{is_among}
use Rattle.image_map.proofs.map.has_task.Given as goal

abbrev pub invariant-loop-t : goal.invariant-loop-t
invariant-loop-t l = is_among l.name (map (λ t. t.name) (drop l.t-index l.tasks)) ≡ is_among l.name (map (λ t. t.name) l.tasks)
