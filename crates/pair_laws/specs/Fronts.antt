-- The first elements of a list.
use Rattle.std.specs.Prelude.{◌≡◌, List, ◌++◌}

-- the first list is the second one, or its first elements
pub record IsFront {T : Type 0} (front all : List T) : Type 0 where
  pub rest : List T
  pub joins : front ++ rest ≡ all
