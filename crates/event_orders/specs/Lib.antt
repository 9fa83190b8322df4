pub mod Answers
pub mod Waiting
pub mod Laws
pub use Rattle.event_rules.specs as event_rules
