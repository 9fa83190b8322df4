pub mod Stretches
pub mod Bodies
pub mod Needs
