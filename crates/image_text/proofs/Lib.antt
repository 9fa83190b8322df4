mod Puts
mod Lines
mod Digits
mod Places
mod Back
mod Sections
mod Spread
mod Cuts
mod Printed
mod Apart
mod Placing
mod Meanings
mod Ahead
pub mod Interface
