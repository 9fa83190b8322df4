-- What the proofs of other crates cite.

-- The laws of compiled tasks.
pub use Rattle.task_attempts.proofs.Theorems.{compiled_laws, stores_below_code, tasks_leave, tasks_list_few, scripts_in_order}
