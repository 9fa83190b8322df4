-- What the walks keep for each of 256 shared variables, by number.
use Rattle.std.specs.Prelude.{◌≡◌, ℕ, ◌+◌, ◌<◌, ◌||◌, Bool, false, List, slice_index, slice_index_or}
use Rattle.cost_bound.specs.Table.{capped}

-- each number is another's, as far as 64 bits keep it
abbrev pub AreCapped : List ℕ → (ℕ → ℕ) → Type 0
AreCapped numbers of = (i : ℕ) → i < 256 → capped (slice_index numbers i) ≡ capped (of i)

-- each number grew by its part
abbrev pub HaveGrown : List ℕ → List ℕ → (ℕ → ℕ) → Type 0
HaveGrown old new part = AreCapped new (λ i. slice_index old i + part i)

-- the marks of more variables were set
abbrev pub AreMarked : List Bool → List Bool → (ℕ → Bool) → Type 0
AreMarked old new more = (i : ℕ) → i < 256 → slice_index_or new i false ≡ (slice_index_or old i false || more i)
