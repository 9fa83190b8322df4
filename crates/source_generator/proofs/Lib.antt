mod Lengths
mod Limits
mod Pieces
mod Rows
mod Steps
pub mod Interface
