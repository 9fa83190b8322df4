mod Feeds
mod Blanks
mod Receivers
mod Tails
mod Texts
pub mod Interface
