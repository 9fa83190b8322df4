pub mod Encoding
pub use Rattle.msp_isa.specs as msp_isa
