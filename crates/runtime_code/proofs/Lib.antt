mod Chains
mod Loops
mod Regions
mod Sizes
mod WhereEvents
mod Ladder
mod Sending
mod Layouts
pub mod Interface
pub use Rattle.runtime_effects.proofs.fram_board as fram_board
pub use Rattle.runtime_effects.proofs.machine_effects as machine_effects
pub use Rattle.code_forms.proofs as code_forms
pub use Rattle.runtime_effects.proofs as runtime_effects
