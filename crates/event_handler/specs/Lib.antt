pub mod Handler
pub mod Boundaries
pub mod Laws
