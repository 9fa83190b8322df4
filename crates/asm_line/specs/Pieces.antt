-- Pieces of a text, with the places at which they begin, cut at marks and at blanks.
use Rattle.std.specs.Prelude.{ℕ, ◌+◌, ◌==◌, not, nat_lt, if◌then◌else◌, List, [], ◌∷◌, length, map, take, drop, Option, Some, None}
pub use Rattle.text_parts.specs.Lines.{onto_first}
use Rattle.text_parts.specs.Lengths.{len_before}
use Rattle.text_parts.specs.Fields.{fields, is_blank, no_fields}
use Rattle.text_parts.specs.Lines.{without_return}

-- bytes that begin at a place
pub record Located : Type 0 where
  pub at : ℕ
  pub text : List ℕ

-- what stands behind the first n bytes of a piece
abbrev pub behind : ℕ → Located → Located
behind n p = record { at = p.at + n; text = drop n p.text }

-- the first n bytes of a piece
abbrev pub front : ℕ → Located → Located
front n p = record { at = p.at; text = take n p.text }

-- how many bytes stand before a mark, before a blank, and before anything else
abbrev pub mark_at : ℕ → List ℕ → ℕ
mark_at mark = len_before (λ b. b == mark)

-- how many bytes stand before the first blank
abbrev pub word_len : List ℕ → ℕ
word_len = len_before is_blank

-- how many blanks stand in front
abbrev pub blank_len : List ℕ → ℕ
blank_len = len_before (λ b. not (is_blank b))

-- what stands before the first mark, or all where there is none
unfoldable pub before_mark : ℕ → Located → Located
before_mark mark p = front (mark_at mark p.text) p

-- what stands behind the first mark, if there is one
unfoldable pub behind_mark : ℕ → Located → Option Located
behind_mark mark p = if nat_lt (mark_at mark p.text) (length p.text) then Some (behind (mark_at mark p.text + 1) p) else None

-- a piece without the blanks in front of it
unfoldable pub without_blanks : Located → Located
without_blanks p = behind (blank_len p.text) p

-- a piece up to its first blank, and what stands from there on
unfoldable pub word : Located → Located
word p = front (word_len p.text) p

-- what stands from the first blank on
unfoldable pub behind_word : Located → Located
behind_word p = behind (word_len p.text) p

-- the one word of a piece that has blanks alone beside it; it may be empty
abbrev pub word_alone : Located → Option Located
word_alone p = if no_fields (fields (behind_word p).text) then Some (word p) else None

-- the same behind the blanks in front
unfoldable pub only_word : Located → Option Located
only_word p = word_alone (without_blanks p)

-- what stands between marks; it is one piece more than there are marks
unfoldable pub split : ℕ → List ℕ → List (List ℕ)
split mark [] = [] ∷ []
split mark (b ∷ bs) = if b == mark then [] ∷ split mark bs else onto_first b (split mark bs)

-- pieces with one byte between each two, of which the first begins at a place
abbrev pub place_all : ℕ → List (List ℕ) → List Located
place_all at [] = []
place_all at (p ∷ ps) = record { at = at; text = p } ∷ place_all (at + length p + 1) ps

-- the pieces of a piece between marks
abbrev pub parts : ℕ → Located → List Located
parts mark p = place_all p.at (split mark p.text)

-- the pieces of what is left, if anything is
abbrev pub rest_parts : ℕ → Option Located → List Located
rest_parts mark None = []
rest_parts mark (Some p) = parts mark p

-- how many bytes are left, with the mark in front of them
abbrev pub left_len : Option Located → ℕ
left_len None = 0
left_len (Some p) = length p.text + 1

-- a line without one carriage return at its end
abbrev pub bare : Located → Located
bare p = record { at = p.at; text = without_return p.text }

-- the lines of a text; what stands behind the last line feed is one too, even if it is empty
abbrev pub lines_left : Option Located → List Located
lines_left p = map bare (rest_parts 10 p)
