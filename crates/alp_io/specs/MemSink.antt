-- A sink in memory as contracts see it.
use Rattle.std.specs.Prelude.{◌≡◌, ℕ, ◌-◌, ◌<◌, ◌⊎◌, min, List, length, Contains}

-- the bytes that it has, the greatest number of them, the calls that fail, and how many calls and faults there were
pub record MemSinkState : Type 0 where
  pub bytes : List ℕ
  pub room : ℕ
  pub failing_calls : List ℕ
  pub calls : ℕ
  pub faults : ℕ

-- the next call is listed, or has a piece with bytes and no room for one
abbrev pub IsRefused : MemSinkState → List ℕ → Type 0
IsRefused sink piece = Contains sink.failing_calls sink.calls ⊎ ((sink.room ≡ length sink.bytes) × (0 < length piece))

-- how many bytes of a piece the next call takes: all that there are and that have room, and at most 64
abbrev pub taken_len : MemSinkState → List ℕ → ℕ
taken_len sink piece = min (min (length piece) 64) (sink.room - length sink.bytes)
