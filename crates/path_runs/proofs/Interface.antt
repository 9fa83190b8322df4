-- What the proofs of other crates cite.

-- A statement that goes on has a path that goes on.
pub use Rattle.path_runs.proofs.GoesOn.{runs_go_on_along_paths}
-- Where each path writes a scalar first, it makes no difference which words it held.
pub use Rattle.path_runs.proofs.Forgotten.{first_writes_forget, no_functions}
