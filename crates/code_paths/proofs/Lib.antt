mod Forms
mod Alone
mod Spends
mod Costs
pub mod Interface
