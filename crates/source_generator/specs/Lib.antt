pub mod Draws
pub mod Source
pub mod Trace
pub mod Laws
