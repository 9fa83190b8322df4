mod Numbers
mod Steps
mod Returning
mod Counted
mod Unique
pub mod Interface
pub use Rattle.path_sums.proofs as path_sums
