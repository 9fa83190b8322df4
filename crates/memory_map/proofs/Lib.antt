mod InOrder
mod Parts
mod Apart
mod InRegions
mod Homes
mod Addresses
mod Spots
mod Privates
mod Routines
pub mod Interface
