pub mod Fronts
pub mod Numbers
pub mod Sides
pub mod Sender
pub mod Listener
pub mod Joined
pub mod Told
pub mod Laws
pub use Rattle.pair_run.specs as pair_run
