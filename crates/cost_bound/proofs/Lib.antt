mod Caps
mod Views
mod Walks
mod Called
mod Sums
mod Emits
mod First
mod Same
mod Known
mod Unique
pub mod Interface
pub use Rattle.task_check.proofs.task_lex as task_lex
pub use Rattle.task_check.proofs as task_check
