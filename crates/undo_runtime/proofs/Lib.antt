mod Recovery
mod Opening
mod Entering
mod Boot
mod Commit
mod Words
mod Writing
pub mod Interface
