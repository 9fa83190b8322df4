pub mod Interface
mod Files
mod Numbers
mod FirstWord
mod Lines
mod Commands
mod Added
