-- What other crates' proofs cite.

-- A program has no more choices than words.
pub use Rattle.dearest_ways.proofs.Few.{program_few}
-- What calls cost, where the bodies in them go by where their code begins.
pub use Rattle.dearest_ways.proofs.Filling.{BodiesCost, filled_cost}
