-- What holds of the definitions.
use Rattle.std.specs.Prelude.{◌≡◌, ℕ, List, [], ◌++◌, Some}
use Rattle.source_values.specs.Values.{AreTaken}
use Rattle.source_values.specs.Runs.{CheckedProgram, TaskInputs, attempt_of, Completion, completion_of}

-- a whole task took some readings from the front, and comes to the same with any others behind these; of no answers none are left
abbrev pub ReadingsLeftOver : Type 0
ReadingsLeftOver = (program : CheckedProgram) (task : ℕ) (shared : List (List ℕ)) (given : TaskInputs) (c : Completion)
    → completion_of (attempt_of program task shared given) ≡ Some c
    → (used : List ℕ) × (given.readings ≡ used ++ c.left)
    × ((others : List ℕ) → completion_of (attempt_of program task shared (record given { readings = used ++ others })) ≡ Some (record c { left = others }))
    × (given.answers ≡ [] → c.answers ≡ [])

-- it took some answers from the front, 0 behind the last one, and comes to the same with any others behind these
abbrev pub AnswersLeftOver : Type 0
AnswersLeftOver = (program : CheckedProgram) (task : ℕ) (shared : List (List ℕ)) (given : TaskInputs) (c : Completion)
    → completion_of (attempt_of program task shared given) ≡ Some c
    → (taken : List ℕ) × AreTaken given.answers taken c.answers
    × ((others : List ℕ) → completion_of (attempt_of program task shared (record given { answers = taken ++ others })) ≡ Some (record c { answers = others }))
