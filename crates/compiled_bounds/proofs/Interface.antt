-- What the proofs of other crates cite.

-- The greatest of the costs of tasks, by number and by the list.
pub use Rattle.compiled_bounds.proofs.Bounds.{bound_is_the_sources}
-- Each task keeps to its part of the bound.
pub use Rattle.compiled_bounds.proofs.Costs.{tasks_keep_to_the_bound, logged_tasks_keep_to_the_bound}
-- A task's part has the cycles of what it needs beside its code.
pub use Rattle.compiled_bounds.proofs.Needs.{table_covers_needs, needs_keep_to_the_bound}
-- The commit list and the emit buffer keep to their capacities, and version words to VER.
pub use Rattle.compiled_bounds.proofs.Capacities.{KeepsVersions, phase_keeps_versions, capacities_are_kept}
