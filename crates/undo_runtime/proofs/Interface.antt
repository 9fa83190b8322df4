-- What the proofs of other crates cite.

-- The boot, its recovery, and the start of an attempt.
pub use Rattle.undo_runtime.proofs.Boot.{undo_commit_is_found, recovery_is_made, undo_start_is_made}
-- The commit.
pub use Rattle.undo_runtime.proofs.Commit.{undo_commit_is_made}
-- The length of the code.
pub use Rattle.undo_runtime.proofs.Words.{undo_boot_is_short, undo_boot_is_code, undo_boot_fits, undo_commit_is_short, undo_commit_is_code}
-- Private scalars have as many words as are listed of them.
pub use Rattle.undo_runtime.proofs.Writing.{homes_count}
