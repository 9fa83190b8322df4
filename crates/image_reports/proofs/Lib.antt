mod Names
pub mod Begins
mod HandlerWords
mod InFront
mod Accounted
mod Cuts
mod Stacks
mod Opens
mod Answered
pub mod Told
pub mod Capacities
pub mod ImageStart
mod InPlace
pub mod ImageCode
pub mod Untouched
pub mod Onward
pub mod Needs
mod ImageLaw
pub mod Resumed
pub mod Tasks
pub mod CompiledTold
pub mod Interface
