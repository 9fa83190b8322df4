mod Answers
mod Backwards
mod Widths
pub mod Interface
