pub mod Sizes
pub mod Routines
pub mod View
pub mod Layouts
pub mod Placing
pub mod Laws
pub use Rattle.task_ast.specs as task_ast
pub use Rattle.war_analysis.specs.task_lex as task_lex
pub use Rattle.cost_bound.specs as cost_bound
pub use Rattle.war_analysis.specs as war_analysis
pub use Rattle.war_analysis.specs.path_sums as path_sums
