mod Bodies
mod Privates
mod Counted
pub mod Interface
