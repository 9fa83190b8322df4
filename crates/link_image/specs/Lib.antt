pub mod Initial
pub mod Needs
pub use Rattle.image_laws.specs as image_laws
