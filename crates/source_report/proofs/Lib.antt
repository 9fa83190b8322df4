pub mod Determined
pub mod ReportLines
pub mod ReportSteps
pub use Rattle.source_values.proofs as source_values
