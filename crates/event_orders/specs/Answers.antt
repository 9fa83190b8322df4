-- The answers of attempts beside the words of a ring.
use Rattle.std.specs.Prelude.{◌≡◌, ℕ, ◌==◌, not, List, ◌++◌, filter, flat_map}

-- the words among these that aren't 0: an answer is 0 where none waits
abbrev pub not_zeros : List ℕ → List ℕ
not_zeros words = filter (λ w. not (w == 0)) words

-- the answers of attempts, joined, are the first of these words, in order and each once
pub record AnswersInOrder (answers : List (List ℕ)) (words : List ℕ) : Type 0 where
  pub waiting : List ℕ
  pub joined : not_zeros (flat_map (λ l. l) answers) ++ waiting ≡ not_zeros words
