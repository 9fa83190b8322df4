pub mod Acceptance
pub mod Props
pub mod Laws
pub mod Events
pub use Rattle.task_parse.specs as task_parse
