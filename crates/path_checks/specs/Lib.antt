pub mod Firsts
pub mod Loops
pub mod Unassigned
pub mod Ends
pub mod FirstLoops
pub mod Assignments
pub mod Walks
pub mod Ways
pub use Rattle.path_sums.specs as path_sums
