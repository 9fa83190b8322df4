pub mod Laws
pub mod Capacities
