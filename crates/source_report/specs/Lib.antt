pub mod Apart
pub mod Laws
pub mod MeanReport
pub mod SourceReport
pub use Rattle.task_ast.specs as task_ast
pub use Rattle.source_values.specs as source_values
