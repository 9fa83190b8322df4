mod Lists
mod Printed
mod Rests
mod Forced
mod FirstLines
mod Fronts
mod Compared
mod Attempts
mod OnBoard
mod ReadLines
pub mod Interface
