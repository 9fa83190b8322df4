pub mod Faults
pub mod ImageValue
pub mod Line
pub mod Memory
pub mod Reading
pub mod Builder
pub mod Text
pub mod Sections
pub mod Meaning
pub mod Read
pub use Rattle.image_map.specs.address_space as address_space
pub use Rattle.image_map.specs.alp_text as alp_text
pub use Rattle.text_parts.specs as text_parts
pub use Rattle.image_map.specs as image_map
