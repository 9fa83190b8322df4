mod Apart
mod Received
mod Transitions
mod Costs
mod Answers
mod Spans
mod Told
mod Traces
mod Lines
pub mod Interface
pub use Rattle.model_runs.proofs as model_runs
