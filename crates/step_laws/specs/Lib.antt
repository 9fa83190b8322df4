pub mod Alike
pub mod Effects
