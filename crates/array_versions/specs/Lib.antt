pub mod Program
pub mod TaskPrograms
pub mod View
pub mod Operations
pub mod Behaviour
pub mod Form
pub mod Cost
pub mod Laws
pub mod Allowance
pub use Rattle.machine_effects.specs.alp_text as alp_text
pub use Rattle.machine_effects.specs.alp_words as alp_words
pub use Rattle.machine_effects.specs.msp_step as msp_step
pub use Rattle.machine_effects.specs.fram_board as fram_board
pub use Rattle.machine_effects.specs as machine_effects
