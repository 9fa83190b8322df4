pub mod Locals
pub mod Laws
pub use Rattle.cost_bound.specs as cost_bound
pub use Rattle.task_ast.specs as task_ast
