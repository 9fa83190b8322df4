mod Steps
mod Undecided
mod Opening
mod Starts
mod Recovery
mod Commits
mod Theorems
mod Stored
mod GoesOn
pub mod Interface
