pub mod Listing
pub mod Entries
pub mod Laws
pub use Rattle.runtime_code.specs.text_parts as text_parts
pub use Rattle.memory_map.specs.address_space as address_space
pub use Rattle.memory_map.specs as memory_map
pub use Rattle.runtime_code.specs.alp_words as alp_words
pub use Rattle.runtime_code.specs.msp_isa as msp_isa
pub use Rattle.runtime_code.specs.msp_cycles as msp_cycles
pub use Rattle.runtime_code.specs.msp_step as msp_step
pub use Rattle.runtime_code.specs.image_map as image_map
pub use Rattle.runtime_code.specs.fram_board as fram_board
pub use Rattle.runtime_code.specs.machine_effects as machine_effects
pub use Rattle.runtime_code.specs.code_forms as code_forms
pub use Rattle.runtime_code.specs.runtime_effects as runtime_effects
pub use Rattle.privatise.specs.task_ast as task_ast
pub use Rattle.privatise.specs.task_lex as task_lex
pub use Rattle.privatise.specs.cost_bound as cost_bound
pub use Rattle.privatise.specs.war_analysis as war_analysis
pub use Rattle.privatise.specs as privatise
pub use Rattle.runtime_code.specs as runtime_code
pub use Rattle.privatise.specs.path_sums as path_sums
