mod Emits
mod Paths
mod Ends
mod Targets
mod Runnable
mod Lines
mod Refusals
mod Unique
mod OneAnswer
mod FirstEvent
pub mod Interface
