mod Bounds
mod Commits
mod Costs
mod Needs
mod Capacities
pub mod Interface
