-- What the proofs of other crates cite.

-- The emits that the allowance counts are those that a run may make.
pub use Rattle.source_meaning.proofs.Emits.{emits_same, counts_same}
-- An accepted source can be run.
pub use Rattle.source_meaning.proofs.Runnable.{accepted_texts_run}
-- No text has a `next_event` and none.
pub use Rattle.source_meaning.proofs.FirstEvent.{one_or_none}
