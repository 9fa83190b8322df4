mod EffectAlike
mod Gives
mod Valid
mod Keeps
mod Others
pub mod Interface
