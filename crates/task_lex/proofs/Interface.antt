-- What the proofs of other crates cite.

-- No more than 256 tokens stand in a row.
pub use Rattle.task_lex.proofs.Bounds.{wide}
-- Tokens in order begin within the text.
pub use Rattle.task_lex.proofs.Places.{all_within}
