-- Values of this crate without where their names lie in memory.
use Rattle.asm_line.specs.declared.piece.Piece.{Piece}
use Rattle.asm_line.specs.Pieces.{Located}

-- the bytes of a piece, and where they begin
abbrev pub located : Piece → Located
located p = record { at = p.at; text = p.text.now }
