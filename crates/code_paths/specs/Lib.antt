pub mod Paths
pub mod Laws
pub use Rattle.code_forms.specs.msp_isa as msp_isa
pub use Rattle.code_forms.specs as code_forms
