-- What the proofs of other crates cite.

-- Decimals
pub use Rattle.alp_text.proofs.Decimals.{AreDigits, decimal_spells, no_x, number_back}
