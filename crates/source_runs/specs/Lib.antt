pub mod Traces
pub mod Tells
pub mod Resumed
pub mod Sources
pub mod Laws
pub mod Naming
pub mod Transitions
pub mod EventLaws
pub use Rattle.energy_trace.specs as energy_trace
pub use Rattle.model_runs.specs.board_run as board_run
pub use Rattle.model_runs.specs as model_runs
