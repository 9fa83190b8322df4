-- What the proofs of other crates cite.

-- What the sends of a commit do to FRAM.
pub use Rattle.runtime_effects.proofs.Sends.{sends_store}
-- A store that is made where a program takes events.
pub use Rattle.runtime_effects.proofs.WhereEvents.{where_leaves, where_stores, where_takes}
-- The runs that the entries of the commit list name.
pub use Rattle.runtime_effects.proofs.Entries.{run_length, run_longer, run_behind, run_at, run_all, scalar_pairs_count}
pub use Rattle.runtime_effects.proofs.Entries.{entries_behind, entries_alike, last_apart, entries_are_few}
