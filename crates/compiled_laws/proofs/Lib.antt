mod Theorems
mod Ready
pub mod Interface
