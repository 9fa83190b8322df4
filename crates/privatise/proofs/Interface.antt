-- What the proofs of other crates cite.

-- A task has one place for each function that it reaches, and the frames of these are within its stack.
pub use Rattle.privatise.proofs.Frames.{routines_stand, frames_stand}
