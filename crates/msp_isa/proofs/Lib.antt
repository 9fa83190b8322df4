mod Numbers
pub mod Interface
pub use Rattle.alp_words.proofs as alp_words
