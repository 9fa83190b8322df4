-- What a command promises of the texts of its files.
use Rattle.std.specs.Prelude.{ℕ, List, [], ◌∷◌, Option}
use Rattle.command_answers.specs.Ending.{Ending}
use Rattle.command_answers.specs.Refusals.{Refusal}

-- the bytes of the file that a command puts, if it puts one; what it writes; and how it ends
pub record Product : Type 0 where
  pub file : Option (List ℕ)
  pub output : List ℕ
  pub ending : Ending

-- What a command promises: the names of the files that it reads, and of the texts that it may refuse, in order; that of the file that it puts,
-- if it puts one; which texts it takes; what it makes of them; and which text, by its place from 0, is the first that it refuses, and how.
pub record Promise : Type 1 where
  pub reads : List (List ℕ)
  pub judges : List (List ℕ)
  pub puts : Option (List ℕ)
  pub takes : List (List ℕ) → Type 0
  pub makes : List (List ℕ) → Product → Type 0
  pub refuses : List (List ℕ) → ℕ → Refusal → Type 0

-- there are so many texts, and this holds of them
abbrev pub OfNoText : Type 0 → List (List ℕ) → Type 0
OfNoText P [] = P
OfNoText P texts = ⊥

abbrev pub OfOneText : (List ℕ → Type 0) → List (List ℕ) → Type 0
OfOneText P (a ∷ []) = P a
OfOneText P texts = ⊥

abbrev pub OfTwoTexts : (List ℕ → List ℕ → Type 0) → List (List ℕ) → Type 0
OfTwoTexts P (a ∷ b ∷ []) = P a b
OfTwoTexts P texts = ⊥

abbrev pub OfThreeTexts : (List ℕ → List ℕ → List ℕ → Type 0) → List (List ℕ) → Type 0
OfThreeTexts P (a ∷ b ∷ c ∷ []) = P a b c
OfThreeTexts P texts = ⊥

abbrev pub OfFiveTexts : (List ℕ → List ℕ → List ℕ → List ℕ → List ℕ → Type 0) → List (List ℕ) → Type 0
OfFiveTexts P (a ∷ b ∷ c ∷ d ∷ e ∷ []) = P a b c d e
OfFiveTexts P texts = ⊥
