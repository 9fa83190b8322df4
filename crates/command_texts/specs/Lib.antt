pub mod Assemblies
pub mod Sources
pub mod Texts
pub use Rattle.command_answers.specs.alp_io as alp_io
pub use Rattle.energy_trace.specs as energy_trace
pub use Rattle.image_text.specs as image_text
pub use Rattle.state_text.specs as state_text
pub use Rattle.msp_asm.specs as msp_asm
pub use Rattle.cost_bound.specs as cost_bound
pub use Rattle.command_answers.specs.source_report as source_report
pub use Rattle.source_meaning.specs as source_meaning
pub use Rattle.source_runs.specs as source_runs
pub use Rattle.command_answers.specs as command_answers
