mod Names
mod Bare
mod Emitted
mod Written
mod Placing
mod Ready
