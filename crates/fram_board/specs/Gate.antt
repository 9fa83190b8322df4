-- The events that the word GATE tells, by what it was before an instruction or a store and is now.
use Rattle.std.specs.Prelude.{ℕ, ◌==◌, ◌&&◌, Bool, not}

-- GATE is 1 now and wasn't before
abbrev pub is_decide : ℕ → ℕ → Bool
is_decide before now = (now == 1) && not (before == 1)

-- GATE is 0 now and was 1 before
abbrev pub is_done : ℕ → ℕ → Bool
is_done before now = (now == 0) && (before == 1)
