-- What the proofs of other crates cite.

-- A source is known by its tree and by what its names were looked up as.
pub use Rattle.task_check.proofs.Fill.{one_program}
-- What stands where it may.
pub use Rattle.task_check.proofs.Standing.{calls_known, is_placed}
-- Numbers are in range where no name is one too many.
pub use Rattle.task_check.proofs.Ranges.{both_none, no_fault, few_shared, few_functions, few_tasks, targets_numbered, no_name_fault}
