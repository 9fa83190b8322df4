-- What the proofs of other crates cite.

-- The code of a word program keeps to its dearest way.
pub use Rattle.code_costs.proofs.Ways.{code_keeps_to_its_ways}
