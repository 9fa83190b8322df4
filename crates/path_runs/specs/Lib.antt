pub mod Laws
pub use Rattle.source_values.specs.task_ast as task_ast
pub use Rattle.path_sums.specs as path_sums
pub use Rattle.source_values.specs as source_values
