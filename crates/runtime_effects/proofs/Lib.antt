mod Sends
mod Entries
mod WhereEvents
pub mod Interface
pub use Rattle.memory_map.proofs as memory_map
pub use Rattle.machine_effects.proofs.fram_board as fram_board
pub use Rattle.machine_effects.proofs as machine_effects
