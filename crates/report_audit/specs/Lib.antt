pub mod Entry
pub mod Fronts
pub mod Good
pub mod Stops
