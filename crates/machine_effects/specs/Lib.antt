pub mod World
pub mod Inputs
pub mod Going
pub mod Machine
pub mod View
pub mod Runs
pub mod Laws
pub mod Changes
pub use Rattle.event_places.specs as event_places
pub use Rattle.fram_board.specs.address_space as address_space
pub use Rattle.fram_board.specs.alp_text as alp_text
pub use Rattle.fram_board.specs.text_parts as text_parts
pub use Rattle.fram_board.specs.alp_words as alp_words
pub use Rattle.fram_board.specs.msp_isa as msp_isa
pub use Rattle.fram_board.specs.msp_cycles as msp_cycles
pub use Rattle.fram_board.specs.msp_step as msp_step
pub use Rattle.fram_board.specs.image_map as image_map
pub use Rattle.fram_board.specs.image_text as image_text
pub use Rattle.fram_board.specs as fram_board
