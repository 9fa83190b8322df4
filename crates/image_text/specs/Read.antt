-- What a call read up to the `q` of an image.
use Rattle.std.specs.Prelude.{List, ℕ, Result, Ok, Err}
use Rattle.text_parts.specs.Lines.{lines}
use Rattle.image_text.specs.declared.fault.ImageFault.{ImageFault}
use Rattle.image_text.specs.declared.parse.ImageFront.{ImageFront}
use Rattle.image_text.specs.Meaning.{IsFrontOf}
use Rattle.image_text.specs.Reading.{Front}

-- the words, and the lines behind them
abbrev pub read_front : ImageFront → Front
read_front f = record { words = f.image.words; rest = lines f.rest.now; line = f.line }

-- what was read, or the fault, is what these lines come to up to `q`
abbrev pub IsFrontRead : List (List ℕ) → Result ImageFront ImageFault → Type 0
IsFrontRead ls (Ok f) = IsFrontOf ls (Ok (read_front f))
IsFrontRead ls (Err e) = IsFrontOf ls (Err e)
