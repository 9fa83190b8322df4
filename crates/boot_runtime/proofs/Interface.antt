-- What the proofs of other crates cite.

-- The boot and the start of an attempt.
pub use Rattle.boot_runtime.proofs.Boot.{pending_commit_is_found, attempt_is_found, start_is_made, version_is_raised}
-- What any runtime with version words does at its boot and its start: interrupts, the look at GATE, the test of VER, the clearing, EC.
pub use Rattle.boot_runtime.proofs.Boot.{gate_is_not_one, enables}
pub use Rattle.boot_runtime.proofs.Opening.{looks_at_version, clears, raises, counts_events}
-- The length of the boot's code, and what a start costs at most.
pub use Rattle.boot_runtime.proofs.Words.{clearing_is_dearest, boot_is_short, boot_is_code, boot_fits}
-- The tasks of a layout.
pub use Rattle.boot_runtime.proofs.Entered.{tasks_are_entered, privates_end}
pub use Rattle.boot_runtime.proofs.Writing.{if_some, some_to_copy}
