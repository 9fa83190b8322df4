pub mod Sums
pub mod Known
pub mod Reaches
pub mod Access
