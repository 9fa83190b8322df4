mod Sums
mod RoutinesPlaced
mod VariablesPlaced
mod TasksPlaced
mod Known
mod Whole
mod Tight
mod Unique
mod Logged
mod Frames
pub mod Interface
pub use Rattle.war_analysis.proofs as war_analysis
pub use Rattle.war_analysis.proofs.path_sums as path_sums
