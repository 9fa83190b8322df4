pub mod View
pub mod Operations
pub mod Runs
pub mod Seen
pub mod Lowered
pub mod Events
pub mod Spots
pub mod Stores
pub mod Agreement
pub mod Sizes
pub use Rattle.array_versions.specs.alp_text as alp_text
pub use Rattle.memory_map.specs.address_space as address_space
pub use Rattle.memory_map.specs as memory_map
pub use Rattle.array_versions.specs.alp_words as alp_words
pub use Rattle.task_ast.specs as task_ast
pub use Rattle.cost_bound.specs.task_lex as task_lex
pub use Rattle.path_sums.specs as path_sums
pub use Rattle.cost_bound.specs.path_checks as path_checks
pub use Rattle.task_check.specs as task_check
pub use Rattle.cost_bound.specs as cost_bound
pub use Rattle.source_values.specs as source_values
pub use Rattle.array_versions.specs as array_versions
pub use Rattle.variable_places.specs as variable_places
pub use Rattle.path_runs.specs as path_runs
pub use Rattle.undo_effects.specs as undo_effects
