pub mod Code
pub mod Laws
pub mod TaskForms
pub use Rattle.array_versions.specs as array_versions
pub use Rattle.code_forms.specs as code_forms
pub use Rattle.array_versions.specs.msp_step.msp_isa as msp_isa
