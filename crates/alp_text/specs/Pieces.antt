-- A text cut into pieces, made from its end, and one that is made of pieces.
use Rattle.std.specs.Prelude.{ℕ, List, [], ◌∷◌, flat_map}

-- a byte in front of the first piece
abbrev pub onto_first : ℕ → List (List ℕ) → List (List ℕ)
onto_first b [] = (b ∷ []) ∷ []
onto_first b (piece ∷ pieces) = (b ∷ piece) ∷ pieces

-- texts one behind the other
abbrev pub texts : List (List ℕ) → List ℕ
texts = flat_map (λ text. text)
