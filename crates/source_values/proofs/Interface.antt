-- What the proofs of other crates cite.

-- Whole tasks, and the readings and the answers that they take.
pub use Rattle.source_values.proofs.Completions.{readings_left_over_lem, answers_left_over_lem}
-- What a value and a block take, by what each function takes, and what holds of all that goes on with a value.
pub use Rattle.source_values.proofs.Takes.{TakesItsOwn, FunctionTakes, KnownTake, taken_then, taken_in_front, value_takes, for_value, no_answer}
pub use Rattle.source_values.proofs.Uses.{block_uses, meanings_take}
-- What a value leaves as it was where no function is known.
pub use Rattle.source_values.proofs.Kept.{IsBehind, value_keeps, made_behind, for_kept_value}
-- An attempt emits no more words than its block counts, however it ends.
pub use Rattle.source_values.proofs.Emitted.{EmitsUpTo, FunctionUpTo, KnownUpTo, more_turns, statement_up_to, block_up_to, meanings_up_to, attempt_up_to}
-- What holds of each function, by those in front of it.
pub use Rattle.source_values.proofs.Functions.{Every, each_answer, pushed, both_answers}
-- Where no operand is long, values are those of the operators on words.
pub use Rattle.source_values.proofs.Words.{scalar_word, converted_word, assigned_word, word_as_it_is}
