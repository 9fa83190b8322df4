-- What the outside has ready for a board, and what effects take of it.
use Rattle.std.specs.Prelude.{ℕ, ◌≡◌, ◌<◌, List, [], ◌∷◌, ◌++◌, All, length, drop}
use Rattle.fram_board.specs.Effects.{Effect, Outside, Looked}
use Rattle.machine_effects.specs.World.{readings_taken, looks_taken}
pub use Rattle.machine_effects.specs.World.{Look}

-- the first look that is left: where none is, nothing but 0 is seen
abbrev pub first_look : List Look → Look
first_look [] = λ a. 0
first_look (look ∷ more) = look

-- those behind it
abbrev pub other_looks : List Look → List Look
other_looks [] = []
other_looks (look ∷ more) = more

-- the effects of a look: it takes the first one, if one is left
abbrev pub look_effects : List Look → List Effect
look_effects [] = []
look_effects (look ∷ more) = Outside (Looked look) ∷ []

-- what is ready for the ports whose reads take something, and for the instructions that look at HEAD and the ring
pub record Inputs : Type 0 where
  pub readings : List ℕ  -- the readings that are left
  pub looks : List Look  -- the looks that are left: each instruction that looks takes one

-- nothing is ready
abbrev pub no_inputs : Inputs
no_inputs = record { readings = []; looks = [] }

-- what effects take, in order
abbrev pub inputs_taken : List Effect → Inputs
inputs_taken es = record { readings = readings_taken es; looks = looks_taken es }

-- what effects leave
abbrev pub inputs_behind : List Effect → Inputs → Inputs
inputs_behind es i = record { readings = drop (length (readings_taken es)) i.readings; looks = drop (length (looks_taken es)) i.looks }

-- looks that see words
abbrev pub SeeWords : List Look → Type 0
SeeWords looks = All (λ look. (a : ℕ) → look a < 0x10000) looks

-- all that is ready are words
pub record InputsAreWords (i : Inputs) : Type 0 where
  pub readings : All (λ w. w < 0x10000) i.readings
  pub looks : SeeWords i.looks

-- effects take exactly what is ready before and no more behind them
pub record TakesExactly (es : List Effect) (before after : Inputs) : Type 0 where
  pub readings : readings_taken es ++ after.readings ≡ before.readings
  pub looks : looks_taken es ++ after.looks ≡ before.looks
