mod Lines
mod Commands
