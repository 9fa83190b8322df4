mod AssemblyLaws
mod ImageLaws
mod OneReading
mod SourceLaws
mod TraceLaws
pub mod Interface
pub use Rattle.command_answers.proofs.alp_io as alp_io
pub use Rattle.source_runs.proofs as source_runs
pub use Rattle.command_answers.proofs as command_answers
