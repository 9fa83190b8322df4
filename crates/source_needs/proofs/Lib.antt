mod Stretches
mod Tables
mod Ordered
mod Bodies
mod Tasks
mod Rows
mod Conditions
