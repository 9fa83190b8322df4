mod Rooms
mod Fit
mod Ways
mod Placed
mod Built
mod Steps
mod Spared
mod Called
mod Grounds
mod Among
mod Whole
mod Few
pub mod Interface
