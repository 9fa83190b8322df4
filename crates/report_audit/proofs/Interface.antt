-- What the proofs of other crates cite.

-- A run of one transition and more.
pub use Rattle.report_audit.proofs.Rests.{IsRunOn, run_on}
