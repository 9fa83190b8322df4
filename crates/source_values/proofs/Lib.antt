mod Blocks
mod Called
mod Choices
mod Completions
mod Emitted
mod Functions
mod Kept
mod Marked
mod Placed
mod Rows
mod Sizes
mod Takes
mod Tasks
mod Turns
mod Uses
mod Views
mod Words
pub mod Interface
