-- What holds of the behaviour of word programs.
use Rattle.std.specs.Prelude.{ℕ, ◌≡◌, ◌+◌, ◌<◌, ◌≤◌, List, Some}
use Rattle.std.specs.List.{AllByRecursion}
use Rattle.machine_effects.specs.fram_board.Effects.{Effect}
use Rattle.machine_effects.specs.World.{fram_after, readings_taken}
use Rattle.machine_effects.specs.Inputs.{Inputs, InputsAreWords, TakesExactly}
use Rattle.array_versions.specs.Program.{Program, joined, filled}
use Rattle.array_versions.specs.Behaviour.{WordState, started, End, GoesOn, Jumps, Gives, Short, Strays, Broken, behaviour, then_on}
use Rattle.array_versions.specs.Form.{IsWhole, OfWords, locals_of}
use Rattle.array_versions.specs.Cost.{cycles_of, words_of, spent_on, spent}

-- a program has as many words whatever the bodies are of the functions that it calls
abbrev pub FilledWords : Type 0
FilledWords = (bodies : ℕ → Program) (p : Program) → words_of (filled bodies p) ≡ words_of p

-- and as many locals
abbrev pub FilledLocals : Type 0
FilledLocals = (bodies : ℕ → Program) (p : Program) → locals_of (filled bodies p) ≡ locals_of p

-- with bodies of words it is of words
abbrev pub FilledOfWords : Type 0
FilledOfWords = (bodies : ℕ → Program) (p : Program) → ((entry : ℕ) → OfWords (bodies entry)) → OfWords p → OfWords (filled bodies p)

-- two programs have their bodies each by itself
abbrev pub FilledJoined : Type 0
FilledJoined = (bodies : ℕ → Program) (p q : Program) → filled bodies (joined p q) ≡ joined (filled bodies p) (filled bodies q)

-- a program behind another goes on where that one ends
abbrev pub JoinedGoOn : Type 0
JoinedGoOn = (p q : Program) (s : WordState) → behaviour (joined p q) s ≡ then_on (behaviour p s) (behaviour q)

-- its cycles are those of both
abbrev pub JoinedCycles : Type 0
JoinedCycles = (p q : Program) → cycles_of (joined p q) ≡ cycles_of p + cycles_of q

-- and so are its words
abbrev pub JoinedWords : Type 0
JoinedWords = (p q : Program) → words_of (joined p q) ≡ words_of p + words_of q

-- of joined programs the second spends something only where the first goes on
abbrev pub JoinedSpend : Type 0
JoinedSpend = (p q : Program) (s : WordState) → spent (joined p q) s ≡ spent p s + spent_on (behaviour p s).end (spent q)

-- no way spends more than the program's cycles
abbrev pub WaysKeepToCycles : Type 0
WaysKeepToCycles = (p : Program) (s : WordState) → spent p s ≤ cycles_of p

-- FRAM and the inputs left at an end are what the effects make of those at the start
abbrev pub EndsByEffects : WordState → List Effect → End → Type 0
EndsByEffects s es (GoesOn t) = (t.fram ≡ fram_after es s.fram) × TakesExactly es s.inputs t.inputs
EndsByEffects s es (Jumps to t) = (t.fram ≡ fram_after es s.fram) × TakesExactly es s.inputs t.inputs
EndsByEffects s es (Gives v t) = (t.fram ≡ fram_after es s.fram) × TakesExactly es s.inputs t.inputs
EndsByEffects s es Short = readings_taken es ≡ s.inputs.readings
EndsByEffects s es Strays = Unit {0}
EndsByEffects s es Broken = Unit {0}

-- so it is at each program's end
abbrev pub BehavesByEffects : Type 0
BehavesByEffects = (p : Program) (s : WordState) → let b = behaviour p s in EndsByEffects s b.effects b.end

-- an end that the code of a task can come to
abbrev pub IsSound : End → Type 0
IsSound (GoesOn t) = ⊥
IsSound (Jumps to t) = Unit {0}
IsSound (Gives v t) = ⊥
IsSound Short = Unit {0}
IsSound Strays = Unit {0}
IsSound Broken = ⊥

-- a whole program jumps, or is short of readings, or comes to an address that isn't in FRAM
abbrev pub WholeEndsSoundly : Type 0
WholeEndsSoundly = (p : Program) (fram : ℕ → ℕ) (inputs : Inputs) → IsWhole p → IsSound (behaviour p (started fram inputs)).end

-- all that a state holds are words
pub record IsStateOfWords (s : WordState) : Type 0 where
  pub stack : AllByRecursion (λ v. v < 0x10000) s.stack
  pub locals : (n v : ℕ) → s.locals n ≡ Some v → v < 0x10000
  pub fram : (a : ℕ) → s.fram a < 0x10000
  pub inputs : InputsAreWords s.inputs

-- where an end has a state, all in it are words; so is a word that is given
abbrev pub EndsInWords : End → Type 0
EndsInWords (GoesOn t) = IsStateOfWords t
EndsInWords (Jumps to t) = IsStateOfWords t
EndsInWords (Gives v t) = (v < 0x10000) × IsStateOfWords t
EndsInWords Short = Unit {0}
EndsInWords Strays = Unit {0}
EndsInWords Broken = Unit {0}

-- a program of words makes words of words
abbrev pub WordsStayWords : Type 0
WordsStayWords = (p : Program) (s : WordState) → OfWords p → IsStateOfWords s → EndsInWords (behaviour p s).end
