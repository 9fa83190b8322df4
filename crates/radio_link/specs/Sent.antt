-- What one side sent over a radio that loses, repeats and reorders.
use Rattle.std.specs.Prelude.{ℕ, ◌+◌, ◌-◌, ◌==◌, nat_lt, Bool, true, false, if◌then◌else◌, List, [], ◌∷◌, ◌++◌, length, Option, None, slice_get}

-- all that was sent, in the order of sending, and whether the newest wasn't brought to the other side yet
pub record SentValue (T : Type 0) : Type 0 where
  pub items : List T
  pub newest_waits : Bool

-- nothing
abbrev pub nothing_sent : {T : Type 0} → SentValue T
nothing_sent = record { items = []; newest_waits = false }

-- one more stands behind the others and waits; past 1,000,000 it is lost
abbrev pub with_sent : {T : Type 0} → SentValue T → T → SentValue T
with_sent s x = if nat_lt (length s.items) 1000000 then record { items = s.items ++ x ∷ []; newest_waits = true } else s

-- the one of place k is brought, counted from 0: where it is the newest, that waits no more
abbrev pub with_brought : {T : Type 0} → SentValue T → ℕ → SentValue T
with_brought s k = record { items = s.items; newest_waits = if k + 1 == length s.items then false else s.newest_waits }

-- the newest, where it waits
abbrev pub newest : {T : Type 0} → SentValue T → Option T
newest s = if s.newest_waits then slice_get s.items (length s.items - 1) else None
