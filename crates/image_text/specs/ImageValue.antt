-- What an image is: the words of the FRAM, by their addresses, and what is said of them.
use Rattle.std.specs.Prelude.{ℕ, ◌<◌, if◌then◌else◌, List, length, Option, Some, None, slice_index, replicate}
pub use Rattle.image_map.specs.address_space.Limits.{place_of}
use Rattle.image_map.specs.MapValue.{MapValue}
pub use Rattle.image_map.specs.MapValue.{is_fram_word}

-- the words from 4400 to FFFE, and the map, if there is one
pub record ImageValue : Type 0 where
  pub words : List ℕ
  pub map : Option MapValue

-- a map of an image has a task
abbrev pub HasTask : Option MapValue → Type 0
HasTask None = Unit {0}
HasTask (Some m) = 0 < length m.tasks

-- so many words, all 0
unfoldable pub zeros : ℕ → List ℕ
zeros n = replicate n 0

-- the word at an address, if one stands there
abbrev pub word_at : List ℕ → ℕ → Option ℕ
word_at words a = if is_fram_word a then Some (slice_index words (place_of a)) else None
