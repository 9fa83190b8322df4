mod Registers
mod Forms
mod Uncovered
mod Rules
mod Blocks
mod Placed
mod FromSp
mod Stacks
mod Agreeing
mod Watched
pub mod Interface
