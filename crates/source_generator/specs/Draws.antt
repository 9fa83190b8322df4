-- Draws: a linear congruential generator modulo 2^32, of which each draw gives the upper 16 bits.
use Rattle.std.specs.Prelude.{ℕ, zero, suc, ◌+◌, ◌*◌, ◌/◌, ◌%◌, ◌^◌, List, [], ◌∷◌}

-- the state behind a draw
abbrev pub next : ℕ → ℕ
next s = (s * 1664525 + 1013904223) % 2 ^ 32

-- what is drawn in a state
abbrev pub drawn : ℕ → ℕ
drawn s = next s / 65536

-- so many draws, one after another
unfoldable pub draws : ℕ → ℕ → List ℕ
draws zero s = []
draws (suc n) s = drawn s ∷ draws n (next s)

-- the state behind so many draws
unfoldable pub behind : ℕ → ℕ → ℕ
behind zero s = s
behind (suc n) s = behind n (next s)
