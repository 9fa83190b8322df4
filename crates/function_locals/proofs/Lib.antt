mod Loops
mod Registers
mod Depths
pub mod Interface
pub use Rattle.cost_bound.proofs as cost_bound
