mod Parts
mod Linked
mod Called
mod Rooms
mod Watched
mod Stretches
mod Stacked
mod Above
mod Reached
mod Recovered
pub mod Interface
pub use Rattle.boot_runtime.proofs.memory_map as memory_map
pub use Rattle.boot_runtime.proofs.fram_board as fram_board
pub use Rattle.boot_runtime.proofs.machine_effects as machine_effects
pub use Rattle.boot_runtime.proofs.code_forms as code_forms
pub use Rattle.boot_runtime.proofs.war_analysis as war_analysis
pub use Rattle.word_code.proofs.array_versions as array_versions
pub use Rattle.boot_runtime.proofs.runtime_code as runtime_code
pub use Rattle.boot_runtime.proofs as boot_runtime
pub use Rattle.commit_runtime.proofs as commit_runtime
pub use Rattle.undo_runtime.proofs as undo_runtime
pub use Rattle.boot_runtime.proofs.runtime_effects as runtime_effects
pub use Rattle.boot_runtime.proofs.path_sums as path_sums
