mod Names
mod Fram
mod Initial
mod Rows
mod States
mod Fresh
mod Laid
mod One
pub mod Interface
