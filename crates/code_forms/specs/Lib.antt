pub mod Forms
pub mod Code
pub mod Placed
pub mod Watch
pub mod Laws
pub use Rattle.msp_isa.specs.alp_words as alp_words
pub use Rattle.msp_isa.specs as msp_isa
pub use Rattle.instruction_forms.specs as instruction_forms
