-- The choices that a way through code takes.
use Rattle.std.specs.Prelude.{◌≡◌, ℕ, zero, suc, ◌+◌, ◌*◌, ◌==◌, ◌<◌, ◌&&◌, Bool, true, false, not, if◌then◌else◌, List, [], ◌∷◌, ◌++◌, map, length}
use Rattle.std.specs.Prelude.{slice_index, Option, Some, None}
use Rattle.std.specs.Global.{Global}
use Rattle.std.specs.declared.rc.Rc.{Rc}
use Rattle.code_paths.specs.Paths.{capped}
use Rattle.code_ways.specs.declared.choices.Choices.{Choices, fold-Choices}
use Rattle.code_ways.specs.declared.choices.Choices.TheOpen.{Choices-F}

-- a choice by its number, whether its test holds, and how often it is taken so in a row
pub record Taken : Type 0 where
  pub number : ℕ
  pub holds : Bool
  pub times : ℕ

-- in each of so many turns
abbrev pub turned : ℕ → Taken → Taken
turned turns t = record t { times = turns * t.times }

-- one level of choices, with those inside already seen
abbrev pub choices_layer : Choices-F (List Taken) → List Taken
choices_layer (Choices-F.One number holds) = record { number = number; holds = holds; times = 1 } ∷ []
choices_layer (Choices-F.Behind first second) = first.value ++ second.value
choices_layer (Choices-F.Turns turns turn) = map (turned turns) turn.value

-- the choices as a list, in the order in which the way takes them
abbrev pub choices_of : Choices → List Taken
choices_of = fold-Choices (List Taken) choices_layer

-- those of a way, if it takes any
abbrev pub taken_of : Option (Rc Choices Global) → List Taken
taken_of None = []
taken_of (Some choices) = choices_of choices.value

-- whether a truth is the one that is asked for
abbrev pub is_so : Bool → Bool → Bool
is_so true b = b
is_so false b = not b

-- how often a choice is taken so, by its number
abbrev pub times_of : Bool → ℕ → List Taken → ℕ
times_of holds number [] = 0
times_of holds number (t ∷ more) = (if t.number == number && is_so holds t.holds then t.times else 0) + times_of holds number more

-- of so many choices from a number on how often each is taken so; 2^64 - 1 where it is more
abbrev pub counts_from : Bool → ℕ → ℕ → List Taken → List ℕ
counts_from holds number zero taken = []
counts_from holds number (suc n) taken = capped (times_of holds number taken) ∷ counts_from holds (suc number) n taken

-- counts of choices grew by as much as each is taken
abbrev pub HaveGrown : List ℕ → List ℕ → (ℕ → ℕ) → Type 0
HaveGrown old new more = (i : ℕ) → i < length old → capped (slice_index new i) ≡ capped (slice_index old i + more i)
