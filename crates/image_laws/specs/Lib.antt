pub mod Words
pub mod Compiled
pub mod Laws
