mod Copies
mod WordLoop
mod Commit
mod Words
pub mod Interface
