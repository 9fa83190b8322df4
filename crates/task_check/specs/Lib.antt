pub mod SharedTypes
pub mod Occurrences
pub mod Scope
pub mod LookedUp
pub mod Faults
pub mod Placed
pub mod Answers
pub mod Limits
pub mod Tables
pub mod Typed
pub mod Parts
pub mod Walks
pub mod Laws
pub use Rattle.task_lex.specs as task_lex
pub use Rattle.path_checks.specs.path_sums as path_sums
pub use Rattle.path_checks.specs as path_checks
