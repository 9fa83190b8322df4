pub mod Entries
pub mod Stages
pub use Rattle.runtime_effects.specs.memory_map as memory_map
pub use Rattle.runtime_effects.specs.fram_board as fram_board
pub use Rattle.runtime_effects.specs.machine_effects as machine_effects
pub use Rattle.runtime_effects.specs as runtime_effects
