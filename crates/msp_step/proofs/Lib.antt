mod Fetched
mod Accesses
mod Addressed
mod Determined
pub mod Interface
pub use Rattle.msp_decode.proofs as msp_decode
