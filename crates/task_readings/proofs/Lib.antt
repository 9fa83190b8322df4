mod Attempts
mod Functions
mod Transitions
pub mod Interface
