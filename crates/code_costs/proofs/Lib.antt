mod Names
mod Alone
mod Reaching
mod Tests
mod Turns
mod Ways
pub mod Interface
