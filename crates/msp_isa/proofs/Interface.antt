-- What the proofs of other crates cite.

-- The numbers of registers.
pub use Rattle.msp_isa.proofs.Numbers.{index_below}
