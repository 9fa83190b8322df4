-- What the proofs of other crates cite.

-- Texts are accepted or refused, not both.
pub use Rattle.state_commands.proofs.NotRefused.{TextsExclude, no_save, no_resume, no_migrate}
-- Whatever a command makes of its texts has one ending.
pub use Rattle.state_commands.proofs.OneEnding.{resume_ending, save_ending}
