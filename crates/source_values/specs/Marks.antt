-- Marks on the words of rows that may differ from what they were.
use Rattle.std.specs.Prelude.{◌≡◌, ℕ, ◌+◌, ◌*◌, ◌/◌, ◌%◌, Bool, true, false, List, [], replicate, slice_index, slice_index_or}

-- a mark for each variable, and marks for the blocks of 64 words
pub record MarksValue : Type 0 where
  pub variables : List Bool
  pub blocks : List Bool

-- none is set
abbrev pub no_marks : MarksValue
no_marks = record { variables = replicate 256 false; blocks = replicate 1024 false }

-- the number of the mark of a word's block
abbrev pub mark_of : ℕ → ℕ → ℕ
mark_of v i = (v % 256 * 4 + i / 64) % 1024

-- word i of variable v is marked: its variable is, and its block
pub record IsMarked (m : MarksValue) (v i : ℕ) : Type 0 where
  pub variable : slice_index_or m.variables (v % 256) false ≡ true
  pub block : slice_index_or m.blocks (mark_of v i) false ≡ true

-- the word at an index of a row
abbrev pub word_in : List (List ℕ) → ℕ → ℕ → ℕ
word_in rows v i = slice_index (slice_index_or rows v []) i

-- the words that aren't marked are the same in both
abbrev pub Covers : MarksValue → List (List ℕ) → List (List ℕ) → Type 0
Covers m a b = (v i : ℕ) → (IsMarked m v i → ⊥) → word_in a v i ≡ word_in b v i
