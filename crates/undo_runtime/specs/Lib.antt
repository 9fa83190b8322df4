pub mod Listing
pub mod Entries
pub mod Needs
pub mod Laws
pub use Rattle.boot_runtime.specs as boot_runtime
pub use Rattle.undo_effects.specs as undo_effects
