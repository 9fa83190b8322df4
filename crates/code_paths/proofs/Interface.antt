-- What the proofs of other crates cite.

-- Code whose jumps go forward keeps to its dearest path.
pub use Rattle.code_paths.proofs.Spends.{runs_so, starves_so}
-- What stands at an address alone stands there in all code that it is a part of.
pub use Rattle.code_paths.proofs.Alone.{stands_alone, tidy_alone}
