mod Rules
mod Last
mod Bodies
mod Taking
mod ReadBack
mod Printed
mod Ahead
pub mod Interface
