-- What the proofs of other crates cite.

-- A program behind another.
pub use Rattle.array_versions.proofs.Joined.{joined_go_on, joined_cycles, joined_words, joined_nothing, joined_assoc, then_on_assoc}
-- A test decides as the word that it is the truth of.
pub use Rattle.array_versions.proofs.Joined.{decided_by_truth}
-- A whole program is never broken: along each way the stack is as deep as is said, and the locals that are said to be assigned are.
pub use Rattle.array_versions.proofs.Ways.{Matches, GoesWell, matches_local, step_well, well, start_matches, entry_matches, whole_ends_soundly}
-- Words, and operations on them.
pub use Rattle.array_versions.proofs.Words.{zero_unless, plain_small, put_words, local_words, called_words}
-- What each program does: it changes FRAM and the readings by its effects; from words it makes words, and stores words; a local that it spares keeps its
-- word.
pub use Rattle.array_versions.proofs.Facts.{behaves_by_effects, step_words, words, StoresWords, stores_words, Leaves, leaves}
-- Something weaker of each local.
pub use Rattle.array_versions.proofs.Locals.{each_local_as}
-- The bodies of the functions that a program calls.
pub use Rattle.array_versions.proofs.Filled.{filled_words, filled_locals, filled_of_words, filled_joined}
-- Each step keeps to the allowance.
pub use Rattle.array_versions.proofs.Kept.{steps_keep_to_words}
-- A shift to the right by k has at most k + 1 words.
pub use Rattle.array_versions.proofs.Kept.{right_low}
-- What ways spend, against the cycles of programs.
pub use Rattle.array_versions.proofs.Spent.{ways_keep_to_cycles, joined_spend}
