mod Steps
mod Costs
mod Attempts
mod Program
mod Logged
mod Bound
mod NeedsModel
mod Needs
mod Raises
mod Leaves
mod Words
mod Fits
pub mod Interface
