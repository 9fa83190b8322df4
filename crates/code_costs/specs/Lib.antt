pub mod Dearest
pub mod Laws
pub use Rattle.word_code.specs as word_code
