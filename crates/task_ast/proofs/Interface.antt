-- What the proofs of other crates cite.

-- A list of a tree that is walked from its end.
pub use Rattle.task_ast.proofs.Backwards.{drop_back}
-- Types of one word.
pub use Rattle.task_ast.proofs.Widths.{by_one_word, width_least, joined_word, binary_word, unary_word, literal_word}
-- Answers of functions.
pub use Rattle.task_ast.proofs.Answers.{answers_length, known_stays, answer_at, answer_of, answers_append, answers_more, answers_take, along_answers}
