pub mod Places
pub mod View
pub mod Parts
pub mod Needs
