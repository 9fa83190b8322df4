-- What the proofs of other crates cite.

-- A piece with and without a carriage return at its end.
pub use Rattle.text_parts.proofs.Returns.{return_last, return_none, other_last}
-- The first piece of a text, and how a text is made of its pieces.
pub use Rattle.text_parts.proofs.Pieces.{behind, behind_is}
-- Printed lines are read as their words.
pub use Rattle.text_parts.proofs.Printing.{Inked, AreWords, not_blank, upper_inked, digit_upper, decimal_word, fields_spaced, line_back, lines_printed}
pub use Rattle.text_parts.proofs.Printing.{printed_append, line_more, lines_done, added}
