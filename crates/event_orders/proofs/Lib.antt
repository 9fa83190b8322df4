mod Window
mod Order
mod Moments
mod Looks
mod Runs
pub mod Interface
pub use Rattle.event_rules.proofs as event_rules
