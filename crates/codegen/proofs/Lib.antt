mod Names
mod Behind
mod Emitted
pub use Rattle.word_code.proofs.array_versions as array_versions
