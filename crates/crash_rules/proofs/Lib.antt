mod Lists
mod Front
mod Observed
mod Events
mod Cuts
mod Steps
mod Plays
mod Progress
mod Theorems
pub mod Interface
pub use Rattle.machine_effects.proofs.fram_board as fram_board
pub use Rattle.machine_effects.proofs as machine_effects
