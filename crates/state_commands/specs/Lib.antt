pub mod Migrated
pub mod Migrating
pub mod Resumed
pub mod Saved
pub use Rattle.fram_state.specs as fram_state
