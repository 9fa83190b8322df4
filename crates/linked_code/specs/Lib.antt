pub mod Parts
pub mod Linked
pub mod Watch
pub mod Laws
pub mod Rooms
pub use Rattle.boot_runtime.specs.text_parts as text_parts
pub use Rattle.boot_runtime.specs.address_space as address_space
pub use Rattle.boot_runtime.specs.memory_map as memory_map
pub use Rattle.boot_runtime.specs.alp_words as alp_words
pub use Rattle.boot_runtime.specs.msp_isa as msp_isa
pub use Rattle.boot_runtime.specs.msp_cycles as msp_cycles
pub use Rattle.boot_runtime.specs.msp_step as msp_step
pub use Rattle.boot_runtime.specs.image_map as image_map
pub use Rattle.boot_runtime.specs.fram_board as fram_board
pub use Rattle.boot_runtime.specs.machine_effects as machine_effects
pub use Rattle.boot_runtime.specs.code_forms as code_forms
pub use Rattle.boot_runtime.specs.runtime_effects as runtime_effects
pub use Rattle.boot_runtime.specs.task_ast as task_ast
pub use Rattle.boot_runtime.specs.task_lex as task_lex
pub use Rattle.boot_runtime.specs.cost_bound as cost_bound
pub use Rattle.boot_runtime.specs.war_analysis as war_analysis
pub use Rattle.boot_runtime.specs.privatise as privatise
pub use Rattle.word_code.specs.array_versions as array_versions
pub use Rattle.word_code.specs as word_code
pub use Rattle.boot_runtime.specs.runtime_code as runtime_code
pub use Rattle.commit_runtime.specs as commit_runtime
pub use Rattle.boot_runtime.specs as boot_runtime
pub use Rattle.undo_runtime.specs as undo_runtime
pub use Rattle.undo_runtime.specs.undo_effects as undo_effects
pub use Rattle.boot_runtime.specs.path_sums as path_sums
