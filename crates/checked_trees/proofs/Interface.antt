-- What the proofs of other crates cite.

-- Each task and each function of a checked source is well-formed.
pub use Rattle.checked_trees.proofs.Checked.{all_at, all_of, task_checked, function_checked}
-- Paths through a task or a function, and the locals that are assigned along them.
pub use Rattle.checked_trees.proofs.Paths.{HasPath, names_read, values_read, is_path, some_turns, some_block, written, forgotten, behind, behind_both}
pub use Rattle.checked_trees.proofs.Paths.{behind_names, behind_expression, IsAssigned, Safe, safe_both, safe_expression, not_given, safe_paths}
-- The tokens of a text: no more than 256 of them stand in a row, and each number is a word or two.
pub use Rattle.checked_trees.proofs.Tokens.{OfWords, AreSound, are_sound}
-- What a sum over the paths of statements says of the writes of a shared variable.
pub use Rattle.checked_trees.proofs.Written.{KnownGoOn, none_go_on, known_go_on, expression_goes_on, values_go_on, statement_goes_on}
pub use Rattle.checked_trees.proofs.Written.{assignment_writes, store_writes, loop_writes, taken_writes, passed_writes, first_writes, others_write}
pub use Rattle.checked_trees.proofs.Written.{block_assigned, no_bodies}
-- No array is long, and no local.
pub use Rattle.checked_trees.proofs.Widths.{array_word, local_word}
