mod Keeps
mod Bus
mod Instructions
mod Step
mod Stages
mod Begin
pub mod Interface
