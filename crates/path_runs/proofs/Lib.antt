mod GoesOn
mod Forgotten
pub mod Interface
