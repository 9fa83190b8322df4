pub mod Charges
pub mod History
pub mod Events
pub mod Tally
pub mod Report
pub mod Shadow
pub mod Parts
pub mod State
pub mod Stepwise
pub mod Watched
pub use Rattle.alp_io.specs as alp_io
