-- What the proofs of other crates cite.

-- Appends, one behind another.
pub use Rattle.alp_io.proofs.Appends.{part_of_first, part_of_second, writes_err, writes_then}
-- A text that is written piece by piece: what is done, and what is left of it.
pub use Rattle.alp_io.proofs.Progress.{Progress, progress_start, progress_step, progress_last, progress_err}
