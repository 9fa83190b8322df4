mod Taut
mod Tests
mod Joins
mod Calls
mod OneMore
mod Bits
mod FlowMeaning
mod Every
mod AccessLaws
mod AccessMeaning
pub mod Interface
