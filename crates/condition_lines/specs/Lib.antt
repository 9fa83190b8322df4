pub mod Behind
pub mod Lines
pub mod Conditions
pub mod Ways
