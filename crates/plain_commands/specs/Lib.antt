pub mod Asm
pub mod Audit
pub mod Audited
pub mod Dis
pub mod Ends
pub mod Mean
pub mod Run
pub mod RunReport
pub mod Verdicts
pub use Rattle.command_texts.specs.alp_io as alp_io
pub use Rattle.command_texts.specs.energy_trace as energy_trace
pub use Rattle.command_texts.specs.image_text as image_text
pub use Rattle.command_texts.specs.state_text as state_text
pub use Rattle.fram_board.specs as fram_board
pub use Rattle.board_run.specs as board_run
pub use Rattle.command_texts.specs.cost_bound as cost_bound
pub use Rattle.source_values.specs as source_values
pub use Rattle.command_texts.specs.source_report as source_report
pub use Rattle.command_texts.specs.source_meaning as source_meaning
pub use Rattle.command_texts.specs.source_runs as source_runs
pub use Rattle.report_audit.specs as report_audit
pub use Rattle.command_texts.specs.command_answers as command_answers
pub use Rattle.command_texts.specs as command_texts
