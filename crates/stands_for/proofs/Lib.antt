mod Names
mod Sends
mod Keeps
mod Walks
mod Behind
mod Pending
mod Again
mod Commits
mod Starts
mod Attempts
mod Theorems
pub mod Interface
