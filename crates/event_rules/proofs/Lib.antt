mod Hands
mod Runs
mod Ring
mod Scripts
mod InOrder
pub mod Interface
pub use Rattle.run_charges.proofs as run_charges
