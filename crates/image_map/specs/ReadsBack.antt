-- What is printed of a map, read.
use Rattle.std.specs.Prelude.{◌≡◌, ℕ, [], Ok}
use Rattle.text_parts.specs.Lines.{lines}
use Rattle.image_map.specs.MapValue.{MapValue}
use Rattle.image_map.specs.Reading.{map_lines}
use Rattle.image_map.specs.Text.{map_text}

-- the lines of a map's text are that map, whichever number the first has
abbrev pub ReadsBack : MapValue → Type 0
ReadsBack m = (n : ℕ) → (k : ℕ) × (map_lines n (lines (map_text m)) ≡ Ok (record { value = m; rest = []; line = k }))
