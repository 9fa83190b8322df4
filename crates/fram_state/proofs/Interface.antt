-- What the proofs of other crates cite.

-- The entries of a commit list, one by one.
pub use Rattle.fram_state.proofs.Listed.{first_entry}
-- The edition of a state of a source, and how long the rows are that a migration puts.
pub use Rattle.fram_state.proofs.Answered.{edition_of_state}
pub use Rattle.fram_state.proofs.Rows.{row_length}
