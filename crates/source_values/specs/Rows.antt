-- Rows of words, and those that they were.
use Rattle.std.specs.Prelude.{ℕ, List, map, Vec}
use Rattle.std.specs.Global.{Global}

-- rows of words
abbrev pub rows_of : List (Vec ℕ Global) → List (List ℕ)
rows_of = map (λ row. row.items)

-- the words of shared variables, and those at the last transition
pub record TrackedValue : Type 0 where
  pub base : List (List ℕ)
  pub rows : List (List ℕ)
