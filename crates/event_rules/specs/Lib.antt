pub mod Rings
pub mod Taking
pub mod Laws
pub use Rattle.run_charges.specs as run_charges
