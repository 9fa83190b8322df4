pub mod Needs
pub mod Lists
pub mod Laws
