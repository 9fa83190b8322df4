-- What the proofs of other crates cite.

-- What these commands make, from what their parts do.
pub use Rattle.plain_commands.proofs.CommandLaws.{report_whole, report_fails, whole_as}
-- Texts are accepted or refused, not both.
pub use Rattle.plain_commands.proofs.NotRefused.{no_mean, no_run, no_audit}
-- Whatever a command makes of its texts has one ending.
pub use Rattle.plain_commands.proofs.OneEnding.{one_run, run_ending, audit_ending}
-- What a run of a board says of its report.
pub use Rattle.plain_commands.proofs.RunLaws.{ends_well, ends_at_fault, is_written, told_from}
-- What `mean` prints is a report that its source could have told; and what an audit says of such a report.
pub use Rattle.plain_commands.proofs.AuditLaws.{mean_reports_are_good, of_same, mean_reports_are_answered_yes}
