-- What the proofs of other crates cite.

-- No more readings are taken than a task's text has, and no more words offered.
pub use Rattle.charge_limits.proofs.Both.{readings_are_few, words_are_few}
