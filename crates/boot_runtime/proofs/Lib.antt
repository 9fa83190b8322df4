mod Opening
mod Entering
mod Boot
mod Words
mod Stores
mod Writing
mod Entered
pub mod Interface
pub use Rattle.memory_map.proofs as memory_map
pub use Rattle.runtime_code.proofs.fram_board as fram_board
pub use Rattle.runtime_code.proofs.machine_effects as machine_effects
pub use Rattle.runtime_code.proofs.code_forms as code_forms
pub use Rattle.privatise.proofs.war_analysis as war_analysis
pub use Rattle.runtime_code.proofs as runtime_code
pub use Rattle.runtime_code.proofs.runtime_effects as runtime_effects
pub use Rattle.privatise.proofs.path_sums as path_sums
