pub mod Comes
pub mod Counted
pub mod Ladder
pub mod Sending
pub mod Addresses
pub mod LayoutPlaces
pub mod Laws
pub use Rattle.runtime_effects.specs.text_parts as text_parts
pub use Rattle.code_forms.specs.alp_words as alp_words
pub use Rattle.code_forms.specs.msp_isa as msp_isa
pub use Rattle.runtime_effects.specs.msp_cycles as msp_cycles
pub use Rattle.runtime_effects.specs.msp_step as msp_step
pub use Rattle.runtime_effects.specs.image_map as image_map
pub use Rattle.runtime_effects.specs.fram_board as fram_board
pub use Rattle.runtime_effects.specs.machine_effects as machine_effects
pub use Rattle.code_forms.specs as code_forms
pub use Rattle.runtime_effects.specs as runtime_effects
