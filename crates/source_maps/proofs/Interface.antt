-- What the proofs of other crates cite.

-- The variables of a source at their places.
pub use Rattle.source_maps.proofs.Places.{of_kind, one_word}
-- The map of a source.
pub use Rattle.source_maps.proofs.Maps.{maps_are_of_sources}
-- The names of an accepted source.
pub use Rattle.source_maps.proofs.Accepted.{names_are_names}
