pub use Rattle.word_code.specs as word_code
pub use Rattle.word_code.specs.array_versions as array_versions
pub use Rattle.word_code.specs.msp_isa as msp_isa
