pub mod Line
pub mod Reading
pub mod Meaning
pub mod Text
pub mod Sent
