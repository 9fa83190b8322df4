pub mod Events
pub mod Radio
pub mod Output
pub mod Bus
pub mod Board
pub mod Saved
pub mod Steps
pub mod Effects
pub mod Run
pub mod Gate
pub mod Laws
pub use Rattle.state_text.specs.address_space as address_space
pub use Rattle.state_text.specs.image_text.alp_text as alp_text
pub use Rattle.state_text.specs.image_text.text_parts as text_parts
pub use Rattle.alp_words.specs as alp_words
pub use Rattle.msp_isa.specs as msp_isa
pub use Rattle.msp_cycles.specs as msp_cycles
pub use Rattle.msp_step.specs as msp_step
pub use Rattle.state_text.specs.image_text.image_map as image_map
pub use Rattle.state_text.specs.image_text as image_text
pub use Rattle.state_text.specs as state_text
