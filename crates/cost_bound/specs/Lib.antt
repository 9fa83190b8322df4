pub mod Summary
pub mod Table
pub mod Counts
pub mod Frames
pub mod Summaries
pub mod Machine
pub mod Rooms
pub mod Allowance
pub mod Needs
pub mod Rows
pub mod Laws
pub use Rattle.alp_text.specs as alp_text
pub use Rattle.task_check.specs.task_lex as task_lex
pub use Rattle.task_check.specs.path_sums as path_sums
pub use Rattle.task_check.specs.path_checks as path_checks
pub use Rattle.task_check.specs as task_check
