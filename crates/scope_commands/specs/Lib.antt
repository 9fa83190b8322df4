pub mod Bounds
pub mod Answers
