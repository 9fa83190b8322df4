mod Joined
mod Words
mod Parts
mod Chains
mod Runs
mod Facts
mod Ways
mod Views
mod Kept
mod Locals
mod Filled
mod Spent
pub mod Interface
pub use Rattle.machine_effects.proofs as machine_effects
