mod Items
mod Stretches
mod Parts
mod Others
mod Entries
mod Listed
mod Taken
mod Declared
mod Numbers
mod Rows
mod Ring
mod Places
mod Answered
mod InPlace
pub mod Interface
