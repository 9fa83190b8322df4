mod Tables
mod Operands
mod Walks
mod Fronts
mod Parts
mod Standing
mod Finish
mod Fill
mod Counted
mod Ranges
mod OneAnswer
pub mod Interface
pub use Rattle.task_lex.proofs as task_lex
