-- What the proofs of other crates cite.

-- What a piece says doesn't depend on where it stands, but for the places of its labels.
pub use Rattle.asm_line.proofs.Moved.{line_same}
-- What `.word` and `.org` say with one number of four hexadecimal digits.
pub use Rattle.asm_line.proofs.Directives.{IsHex, IsHex4, hex, word_line_says, org_line_says}
