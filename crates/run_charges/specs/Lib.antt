pub mod View
pub mod Moments
pub mod Charges
pub mod Fronts
pub mod Laws
pub use Rattle.code_forms.specs as code_forms
