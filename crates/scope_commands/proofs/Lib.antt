mod Scoped
mod Called
mod Complete
