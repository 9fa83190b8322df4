-- An answer for each function, made in the order of the text from the answers of those in front of it: a function is known only behind
-- its own end.
use Rattle.std.specs.Prelude.{List, [], ◌∷◌, ◌++◌}

-- the known answers, and behind them one for each of the functions
abbrev pub answers_from : {F A : Type 0} → (List A → F → A) → List A → List F → List A
answers_from make known [] = known
answers_from make known (f ∷ fs) = answers_from make (known ++ make known f ∷ []) fs

-- an answer for each function
abbrev pub answers : {F A : Type 0} → (List A → F → A) → List F → List A
answers make fs = answers_from make [] fs
