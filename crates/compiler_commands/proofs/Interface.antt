-- What the proofs of other crates cite.

-- What `try` prints is a report that its source could have told.
pub use Rattle.compiler_commands.proofs.AuditLaws.{tried_reports_are_good, tried_reports_are_answered_yes}
-- Texts are accepted or refused, not both.
pub use Rattle.compiler_commands.proofs.NotRefused.{no_try}
