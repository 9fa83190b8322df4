mod Senses
mod Weights
mod Takes
mod Models
mod Lowered
mod Scripts
mod InPlace
mod Both
pub mod Interface
