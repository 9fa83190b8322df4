pub mod Encoding
pub mod Offset
pub mod Constant
pub use Rattle.alp_words.specs as alp_words
