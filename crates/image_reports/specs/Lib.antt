pub mod Laws
pub mod ImageLaw
pub mod Resumed
pub mod Sources
pub mod CompiledLaws
