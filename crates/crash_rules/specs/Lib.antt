pub mod Model
pub mod History
pub mod Runs
pub mod Laws
pub use Rattle.machine_effects.specs.address_space as address_space
pub use Rattle.machine_effects.specs.msp_isa as msp_isa
pub use Rattle.machine_effects.specs.msp_cycles as msp_cycles
pub use Rattle.machine_effects.specs.msp_step as msp_step
pub use Rattle.machine_effects.specs.image_map as image_map
pub use Rattle.machine_effects.specs.image_text as image_text
pub use Rattle.machine_effects.specs.fram_board as fram_board
pub use Rattle.machine_effects.specs as machine_effects
