-- What a sink has of a text that a buffer before it took.
use Rattle.std.specs.Prelude.{ℕ, ◌<◌, List, length, take, Option, Some, None, Result}
use Rattle.std.specs.Option.{option_map}
use Rattle.alp_io.specs.Sink.{Writes}

-- as many bytes of those now as there were at first, as far as both are told
abbrev pub front_of : Option (List ℕ) → Option (List ℕ) → Option (List ℕ)
front_of None now = None
front_of (Some first) now = option_map (take (length first)) now

-- Every text that was written to a buffer by one answer is written to the sink by the other: whole, or after a failure a proper prefix.
abbrev pub Settles : {T E : Type 0} → Option (List ℕ) → Option (List ℕ) → Option (List ℕ) → Result T E → Result T E → Type 0
Settles first taken held written result = (text : List ℕ) → 0 < length text → Writes first taken written text → Writes first held result text
