mod Costs
mod Joined
mod Grown
pub mod Interface
