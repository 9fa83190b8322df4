pub mod Reading
pub mod Meaning
pub mod Text
pub use Rattle.image_text.specs.address_space as address_space
pub use Rattle.image_text.specs.alp_text as alp_text
pub use Rattle.image_text.specs.text_parts as text_parts
pub use Rattle.image_text.specs.image_map as image_map
pub use Rattle.image_text.specs as image_text
