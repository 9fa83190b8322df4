pub mod Stretch
pub mod Named
pub mod Runtime
pub mod Rules
pub mod Sound
pub mod OtherImage
pub mod Belongs
pub mod Suits
pub mod Kept
pub mod Migrated
pub mod Laid
pub mod Editions
pub mod Laws
pub use Rattle.state_text.specs.address_space as address_space
pub use Rattle.state_text.specs.alp_text as alp_text
pub use Rattle.state_text.specs.image_map as image_map
pub use Rattle.state_text.specs.image_text as image_text
pub use Rattle.state_text.specs as state_text
