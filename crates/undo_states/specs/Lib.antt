pub mod States
pub mod Program
pub use Rattle.stands_for.specs as stands_for
pub use Rattle.undo_effects.specs as undo_effects
