pub mod Laws
pub use Rattle.source_values.specs as source_values
