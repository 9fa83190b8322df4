pub mod FirstPlaces
mod Below
mod BadLoops
mod Assignments
mod TwoTurns
mod UnassignedMeaning
mod Walks
mod Ended
mod Turns
mod Choices
mod Parts
