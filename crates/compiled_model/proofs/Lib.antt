mod Runtimes
pub mod Interface
