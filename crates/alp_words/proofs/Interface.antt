-- What the proofs of other crates cite.

-- Signs, carries and overflow of sums and differences.
pub use Rattle.alp_words.proofs.Signed.{bit_below}
-- Binary coded decimal sums.
pub use Rattle.alp_words.proofs.Decimal.{digit_below}
