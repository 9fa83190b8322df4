use Rattle.std.proofs.Common.{◌≡◌, take}
use Rattle.image_map.proofs.name.copied.Given as goal

abbrev pub invariant-loop-b : goal.invariant-loop-b
invariant-loop-b l = l.bytes.items ≡ take l.b-index l.text
