mod AuditLaws
mod CommandLaws
mod NotRefused
mod OneEnding
mod Reports
mod RunLaws
pub mod Interface
pub use Rattle.command_texts.proofs.alp_io as alp_io
pub use Rattle.command_texts.proofs.command_answers as command_answers
pub use Rattle.command_texts.proofs as command_texts
