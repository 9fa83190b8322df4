pub mod CommandAnswers
pub mod Ending
pub mod FileNames
pub mod InputFiles
pub mod Messages
pub mod Outcomes
pub mod Outside
pub mod Promises
pub mod Refusals
pub mod Status
pub mod Told
pub mod Views
pub use Rattle.alp_text.specs as alp_text
pub use Rattle.alp_io.specs as alp_io
pub use Rattle.source_report.specs.task_ast as task_ast
pub use Rattle.source_report.specs.source_values as source_values
pub use Rattle.source_report.specs as source_report
