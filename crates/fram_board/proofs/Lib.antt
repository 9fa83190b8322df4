mod Arrivals
mod Takes
mod Steps
mod Legal
mod Fits
mod Effects
mod Acceptances
mod Accepted
mod PortWords
mod Runs
mod Counts
mod Powers
pub mod Interface
pub use Rattle.alp_words.proofs as alp_words
pub use Rattle.msp_isa.proofs as msp_isa
pub use Rattle.msp_step.proofs as msp_step
