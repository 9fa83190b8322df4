mod Undone
mod Opening
pub mod Interface
pub use Rattle.runtime_effects.proofs.machine_effects as machine_effects
pub use Rattle.runtime_effects.proofs as runtime_effects
