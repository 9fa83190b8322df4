-- What the proofs of other crates cite.

-- The code makes each attempt and each commit within the task's bound.
pub use Rattle.compiled_runs.proofs.Bound.{code_keeps_the_laws}
-- And within its need, which is a cost of the same tasks.
pub use Rattle.compiled_runs.proofs.NeedsModel.{needs_keep_the_laws}
pub use Rattle.compiled_runs.proofs.Needs.{code_keeps_to_needs}
-- A power-up with GATE 0 raises VER.
pub use Rattle.compiled_runs.proofs.Raises.{power_ups_raise_version}
-- A run leaves the code as it is, and stays in it.
pub use Rattle.compiled_runs.proofs.Leaves.{code_is_placed, scripts_store_below, runs_leave_the_code}
-- The layout of a source has room for the code of its programs.
pub use Rattle.compiled_runs.proofs.Fits.{sources_have_room}
-- What each runtime asks for, where the map names it.
pub use Rattle.compiled_runs.proofs.Costs.{by_redo, by_undo}
