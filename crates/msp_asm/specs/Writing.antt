-- What a sink gained of a text that is told by a property.
use Rattle.std.specs.Prelude.{ℕ, List, Option}
use Rattle.std.specs.Io.KnownBytes.{Appends}
use Rattle.alp_io.specs.Sink.{AppendsProperPrefix}

-- a whole text with this property
abbrev pub IsWritten : (List ℕ → Type 0) → Option (List ℕ) → Option (List ℕ) → Type 0
IsWritten Is old new = (text : List ℕ) × Is text × Appends old new text

-- of each text with this property, a proper prefix
abbrev pub IsCut : (List ℕ → Type 0) → Option (List ℕ) → Option (List ℕ) → Type 0
IsCut Is old new = (text : List ℕ) → Is text → AppendsProperPrefix old new text
