-- How far a text goes before a byte of some kind.
use Rattle.std.specs.Prelude.{ℕ, suc, Bool, if◌then◌else◌, List, [], ◌∷◌}

-- how many bytes stand before the first that passes the test
abbrev pub len_before : (ℕ → Bool) → List ℕ → ℕ
len_before ends [] = 0
len_before ends (b ∷ bs) = if ends b then 0 else suc (len_before ends bs)

-- what stands before the first byte that passes the test
abbrev pub before : (ℕ → Bool) → List ℕ → List ℕ
before ends [] = []
before ends (b ∷ bs) = if ends b then [] else b ∷ before ends bs
