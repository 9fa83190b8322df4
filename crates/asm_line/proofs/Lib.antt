mod Digits
mod Splits
mod Moved
mod Directives
pub mod Interface
mod Rows
