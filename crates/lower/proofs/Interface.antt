-- What the proofs of other crates cite.

-- Effects one stretch behind another, and a number below 256.
pub use Rattle.lower.proofs.Effects.{takes_append, told_append}
pub use Rattle.lower.proofs.Stored.{small_modulo, local_is}
-- What a sum says of the paths of a text, and of those of the functions that it calls.
pub use Rattle.lower.proofs.Paths.{AreCallable, some_writes, writes_some, private_is, is_private_of}
-- A program that takes events where its source uses some admits each task and each function.
pub use Rattle.lower.proofs.Admits.{tasks_are_admitted, functions_are_admitted}
-- An assignment in place has the variable on the left side.
pub use Rattle.lower.proofs.Updates.{IsUpdate, is_update, IsDoubling, is_doubling}
-- What an entry more of the commit list leaves, and that no run is without a word.
pub use Rattle.lower.proofs.Transitions.{after_entry}
pub use Rattle.lower.proofs.Lists.{entered_pairs}
pub use Rattle.lower.proofs.Stored.{few_entries}
-- The words of the shared variables behind a store.
pub use Rattle.lower.proofs.Stored.{word_same, word_other, row_length}
-- The program of statements does what they do.
pub use Rattle.lower.proofs.Agreed.{blocks_agree, program_at}
-- The programs as they are made, with the bodies of functions in their calls, are those that behave.
pub use Rattle.lower.proofs.Filled.{FillsIn, block_filled}
-- A memory map as a task sees it.
pub use Rattle.lower.proofs.Seen.{redo_seen, first_seen, routines_seen, seen_words, seen_count, seen_all}
pub use Rattle.lower.proofs.Seen.{places_count, scalar_seen, array_seen, array_read, SeenFrom, scalar, array, read, seen_from, privates_seen, seen_laid_out}
-- The words of a task's code, and the cycles of its expressions, are within the allowance of a source.
pub use Rattle.lower.proofs.Sizes.{blocks_keep_to_words}
-- Private scalars as runs: no more runs than scalars, the same words.
pub use Rattle.lower.proofs.Neighbours.{RunOfWords, runs_of_words, pairs_of_run, pairs_of_runs, runs_pairs, runs_have_words, runs_are_few}
-- What tasks spend along the way that they take, against the allowance of a source: the entries of the private scalars are paid for once, at
pub use Rattle.lower.proofs.Costs.{blocks_keep_to_cycles, routines_keep}
