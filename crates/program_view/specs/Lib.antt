pub mod View
pub mod Stands
pub mod Laws
pub use Rattle.machine_effects.specs as machine_effects
pub use Rattle.event_handler.specs as event_handler
