mod Going
mod Worlds
mod Inputs
mod Logs
mod Handler
mod Alike
mod Along
mod Steps
mod Seen
mod Blind
mod Pushes
mod Lines
mod Executed
mod Values
mod Words
mod Views
mod Accepted
pub mod Interface
pub use Rattle.fram_board.proofs.msp_step as msp_step
pub use Rattle.fram_board.proofs as fram_board
