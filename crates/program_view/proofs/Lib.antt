mod Steady
mod Shown
mod Ports
mod Handler
pub mod Interface
pub use Rattle.machine_effects.proofs as machine_effects
pub use Rattle.event_handler.proofs as event_handler
