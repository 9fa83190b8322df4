-- What a sink holds after a call.
use Rattle.std.specs.Prelude.{ℕ, ◌<◌, ◌≤◌, List, length, take, Option, Result, OnOk, OnErr, IfOk}
use Rattle.std.specs.Io.KnownBytes.{Appends}

-- the known bytes grow by a proper prefix of the text
pub record AppendsProperPrefix (old new : Option (List ℕ)) (text : List ℕ) : Type 0 where
  pub count : ℕ
  pub proper : count < length text
  pub held : Appends old new (take count text)

-- the whole text, or after a failure a proper prefix of it
pub record Writes {T E : Type 0} (old new : Option (List ℕ)) (result : Result T E) (text : List ℕ) : Type 0 where
  pub whole : OnOk result (Appends old new text)
  pub part : OnErr result (AppendsProperPrefix old new text)

-- a call takes some of a piece: at least one byte of a piece that has one
abbrev pub TakesSome : {E : Type 0} → Result ℕ E → List ℕ → Type 0
TakesSome result piece = IfOk result (λ n. (n ≤ length piece) × (0 < length piece → 0 < n))
