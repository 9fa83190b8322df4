pub mod Names
pub mod MapValue
pub mod Kept
pub mod MapView
pub mod Line
pub mod Reading
pub mod Read
pub mod Text
pub mod Named
pub mod ReadsBack
pub use Rattle.address_space.specs as address_space
pub use Rattle.alp_text.specs as alp_text
