mod Places
mod Scalars
mod Takes
mod Maps
mod Making
mod Spelling
mod Declared
mod Different
mod Accepted
pub mod Interface
pub use Rattle.source_runs.proofs.model_runs as model_runs
pub use Rattle.source_runs.proofs as source_runs
