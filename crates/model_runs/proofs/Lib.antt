mod Fronts
mod Ends
mod Progress
mod Counts
mod Spans
mod Words
mod Places
mod Events
mod Starts
mod Unheard
mod Waiting
mod Histories
mod Reports
pub mod Interface
pub use Rattle.crash_rules.proofs.fram_board as fram_board
pub use Rattle.crash_rules.proofs as crash_rules
pub use Rattle.run_charges.proofs as run_charges
