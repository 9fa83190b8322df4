pub mod Maps
pub mod Adding
pub mod Placing
pub mod Laws
pub mod Names
pub use Rattle.source_runs.specs.energy_trace as energy_trace
pub use Rattle.source_runs.specs.board_run as board_run
pub use Rattle.source_runs.specs.model_runs as model_runs
pub use Rattle.source_runs.specs as source_runs
