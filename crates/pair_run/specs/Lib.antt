pub mod Actions
pub mod Pair
pub mod Consuming
pub mod Lines
pub mod Listening
pub mod Sides
pub mod Told
pub use Rattle.alp_io.specs as alp_io
pub use Rattle.energy_trace.specs as energy_trace
pub use Rattle.radio_link.specs as radio_link
pub use Rattle.fram_board.specs as fram_board
pub use Rattle.board_run.specs as board_run
