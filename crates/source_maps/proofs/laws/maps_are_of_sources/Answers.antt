use Rattle.source_maps.proofs.Maps.{maps_are_of_sources}
use Rattle.source_maps.proofs.laws.maps_are_of_sources.Goals as goal

pub returns : goal.returns
returns c = maps_are_of_sources
