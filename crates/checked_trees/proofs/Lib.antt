mod Tokens
mod Fits
mod Grammar
mod Names
mod Declared
mod Scopes
mod Symbols
mod NameTypes
mod Widths
mod Walk
mod Bodies
mod Paths
mod Written
mod Checked
pub mod Interface
