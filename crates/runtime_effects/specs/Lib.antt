pub mod Places
pub mod Stages
pub mod Needs
pub use Rattle.machine_effects.specs.text_parts as text_parts
pub use Rattle.memory_map.specs.address_space as address_space
pub use Rattle.memory_map.specs as memory_map
pub use Rattle.machine_effects.specs.msp_cycles as msp_cycles
pub use Rattle.machine_effects.specs.msp_step as msp_step
pub use Rattle.machine_effects.specs.image_map as image_map
pub use Rattle.machine_effects.specs.fram_board as fram_board
pub use Rattle.machine_effects.specs as machine_effects
