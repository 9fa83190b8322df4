pub mod PlanValue
pub mod Plans
pub mod Known
pub mod Laws
pub use Rattle.cost_bound.specs.task_lex as task_lex
pub use Rattle.path_sums.specs as path_sums
