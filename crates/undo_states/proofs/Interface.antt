-- What the proofs of other crates cite.

-- What a settled world is.
pub use Rattle.undo_states.proofs.Opening.{settled_stands}
-- What a store keeps of an undecided world: beside the words that it speaks of, over a logged word, to a word that is written in place; a word that is
-- logged.
pub use Rattle.undo_states.proofs.Undecided.{IsBeside, beside_keeps, over_keeps, in_place_keeps, Logs, logs}
-- The laws of what a world stands for.
pub use Rattle.undo_states.proofs.Theorems.{undo_keeps_the_laws, logging_starts, element_stores_stay, shared_stores_stay}
-- Where recoveries and commits store, and the version words of an undecided world.
pub use Rattle.undo_states.proofs.Stored.{undo_commit_stores, recovery_stores, undone_versions}
-- An attempt that goes on: what it stores keeps the world undecided, and what is logged stays logged.
pub use Rattle.undo_states.proofs.GoesOn.{IsPlainWord, ArePairs, GoesOn, Kept, plain_goes, shared_goes, taken_goes, element_goes, kept-append}
