-- What lasts of a board, and what effects make of it.
use Rattle.std.specs.Prelude.{◌≡◌, ℕ, ◌%◌, ◌==◌, if◌then◌else◌, List, [], ◌∷◌, ◌++◌, length}
use Rattle.fram_board.specs.Effects.{Effect, Store, Take, Outside, OutsideEffect, Offered, Looked}

-- a function with this value at one address
abbrev pub put : {A : Type 0} → (ℕ → A) → ℕ → A → ℕ → A
put f a w x = if x == a then w else f x

-- what lasts: FRAM as the word at each address, and the words that the receiver accepted
pub record World : Type 0 where
  pub fram : ℕ → ℕ
  pub accepted : List ℕ

-- the accepted words after a word is offered: it is accepted where its number is their count, modulo 65536
abbrev pub received : ℕ → ℕ → List ℕ → List ℕ
received number w ws = if number == (length ws % 0x10000) then ws ++ w ∷ [] else ws

-- FRAM after an effect
abbrev pub fram_after_one : Effect → (ℕ → ℕ) → (ℕ → ℕ)
fram_after_one (Store a w) f = put f a w
fram_after_one (Take w) f = f
fram_after_one (Outside o) f = f

-- FRAM after effects, the first one first
abbrev pub fram_after : List Effect → (ℕ → ℕ) → (ℕ → ℕ)
fram_after [] f = f
fram_after (e ∷ es) f = fram_after es (fram_after_one e f)

-- the accepted words after an effect that has to do with the outside
abbrev pub accepted_behind : OutsideEffect → List ℕ → List ℕ
accepted_behind (Offered n w) ws = received n w ws
accepted_behind (Looked seen) ws = ws

-- the accepted words after an effect
abbrev pub accepted_after_one : Effect → List ℕ → List ℕ
accepted_after_one (Store a w) ws = ws
accepted_after_one (Take w) ws = ws
accepted_after_one (Outside o) ws = accepted_behind o ws

-- the accepted words after effects, the first one first
abbrev pub accepted_after : List Effect → List ℕ → List ℕ
accepted_after [] ws = ws
accepted_after (e ∷ es) ws = accepted_after es (accepted_after_one e ws)

-- the world after an effect
abbrev pub world_after_one : Effect → World → World
world_after_one (Store a w) x = record x { fram = put x.fram a w }
world_after_one (Take w) x = x
world_after_one (Outside o) x = record x { accepted = accepted_behind o x.accepted }

-- the world after effects, the first one first
abbrev pub world_after : List Effect → World → World
world_after [] x = x
world_after (e ∷ es) x = world_after es (world_after_one e x)

-- the readings that effects take, in order
abbrev pub readings_taken : List Effect → List ℕ
readings_taken [] = []
readings_taken (Take w ∷ es) = w ∷ readings_taken es
readings_taken (Store a w ∷ es) = readings_taken es
readings_taken (Outside o ∷ es) = readings_taken es

-- what an instruction that looks at HEAD and the ring sees there, by address
abbrev pub Look : Type 0
Look = ℕ → ℕ

-- the looks that an effect takes
abbrev pub looks_of : OutsideEffect → List Look
looks_of (Offered n w) = []
looks_of (Looked seen) = seen ∷ []

-- the looks that effects take, in order
abbrev pub looks_taken : List Effect → List Look
looks_taken [] = []
looks_taken (Store a w ∷ es) = looks_taken es
looks_taken (Take w ∷ es) = looks_taken es
looks_taken (Outside o ∷ es) = looks_of o ++ looks_taken es

-- some effects, and others with which they are all
pub record IsPrefix (es all : List Effect) : Type 0 where
  pub rest : List Effect
  pub joins : es ++ rest ≡ all

-- a fact of an effect's store, if it is one
abbrev pub OfStore : (ℕ → ℕ → Type 0) → Effect → Type 0
OfStore P (Store a w) = P a w
OfStore P (Take w) = Unit {0}
OfStore P (Outside o) = Unit {0}

-- a fact of each store among effects, by its address and its word
abbrev pub EachStore : (ℕ → ℕ → Type 0) → List Effect → Type 0
EachStore P [] = Unit {0}
EachStore P (e ∷ es) = OfStore P e × EachStore P es
