mod Bare
mod Filling
mod Costs
mod Few
mod Priced
mod Levels
pub mod Interface
