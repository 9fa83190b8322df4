use Rattle.std.proofs.Common.{◌≡◌, ◌∙◌, sym, ap}
use Rattle.source_maps.proofs.Maps.{event_ring_is}
use Rattle.source_maps.proofs.map.set_ring.Goals as goal
