pub mod Audited
pub mod Build
pub mod Built
pub mod Gen
pub mod Generated
pub mod ToldRuns
pub mod Try
pub use Rattle.link_image.specs.image_laws as image_laws
