-- What a text says as an image: line by line, what is placed so far, or the first fault.
use Rattle.std.specs.Prelude.{◌≡◌, ℕ, ◌+◌, ◌*◌, ◌&&◌, Bool, true, if◌then◌else◌, List, [], ◌∷◌, Option, Some, None, Result, Ok, Err, slice_index_or}
use Rattle.std.specs.Prelude.{is_some, unwrap_or, replicate}
use Rattle.text_parts.specs.Fields.{fields, no_fields}
use Rattle.text_parts.specs.Lines.{lines}
pub use Rattle.text_parts.specs.Sequence.{◌>>=◌}
use Rattle.image_text.specs.declared.fault.ImageFault.{ImageFault}
use Rattle.image_map.specs.declared.fault.MapFault.{MapFault}
use Rattle.image_map.specs.MapValue.{MapValue}
use Rattle.image_map.specs.Reading.{MapLines, map_lines, goes_on}
use Rattle.image_text.specs.Faults.{image_fault}
use Rattle.image_text.specs.ImageValue.{ImageValue}
use Rattle.image_text.specs.Line.{line_says}
use Rattle.image_text.specs.Memory.{Placed, step}
use Rattle.image_text.specs.declared.fault.ImageFault.TheVariants as fault

-- so many places, none given
unfoldable pub empty : ℕ → List (Option ℕ)
empty n = replicate n None

-- the words of bytes, low byte first; those that aren't given are 0
unfoldable pub words_of : List (Option ℕ) → List ℕ
words_of [] = []
words_of (l ∷ []) = []
words_of (l ∷ h ∷ m) = (unwrap_or l 0 + 256 * unwrap_or h 0) ∷ words_of m

-- whether lines have only blanks
unfoldable pub are_blank : List (List ℕ) → Bool
are_blank [] = true
are_blank (l ∷ ls) = no_fields (fields l) && are_blank ls

-- the map that lines are, where none stands behind its last
abbrev pub whole_map : Result MapLines MapFault → Result MapValue ImageFault
whole_map (Ok t) = if no_fields t.rest then Ok t.value else Err (fault.BadMap t.line)
whole_map (Err e) = Err (image_fault e)

-- the map that lines from the n-th on say: none where all are blank
abbrev pub map_behind : ℕ → List (List ℕ) → Result (Option MapValue) ImageFault
map_behind n ls = if are_blank ls then Ok None else whole_map (map_lines n ls) >>= λ m. Ok (Some m)

-- the image of words, with the map that lines from the n-th on say
abbrev pub image_behind : ℕ → List ℕ → List (List ℕ) → Result ImageValue ImageFault
image_behind n words ls = map_behind n ls >>= λ o. Ok (record { words = words; map = o })

-- the words of an image, the lines behind its `q`, and the number of the first of them
pub record Front : Type 0 where
  pub words : List ℕ
  pub rest : List (List ℕ)
  pub line : ℕ

-- the words of what is placed, with the lines from the n-th on behind; places 48126 and 48127 are FFFE and FFFF
abbrev pub finish : ℕ → List (Option ℕ) → List (List ℕ) → Result Front ImageFault
finish n m ls = if is_some (slice_index_or m 48126 None) && is_some (slice_index_or m 48127 None)
    then Ok (record { words = words_of m; rest = ls; line = n })
    else Err fault.NoReset

-- the lines from the n-th on up to `q`, behind what is placed
unfoldable pub read : ℕ → Placed → List (List ℕ) → Result Front ImageFault
read n p [] = Err (fault.BadLine n)
read n p (l ∷ ls) = step n p (line_says l) >>= λ o. goes_on o.0 (read (n + 1) o.1 ls) (finish (n + 1) o.1.memory ls)

-- what lines say up to `q`, or their first fault there
abbrev pub front_of : List (List ℕ) → Result Front ImageFault
front_of ls = read 1 (record { next = None; memory = empty 48128 }) ls

-- what lines say as an image, or their first fault
abbrev pub image_lines : List (List ℕ) → Result ImageValue ImageFault
image_lines ls = front_of ls >>= λ f. image_behind f.line f.words f.rest

-- what a text says as an image, or its first fault
abbrev pub image_of : List ℕ → Result ImageValue ImageFault
image_of text = image_lines (lines text)

-- the fault of a call is that of the text, unless memory was refused
abbrev pub Fails : {A : Type 0} → ImageFault → Result A ImageFault → Type 0
Fails fault.Memory said = Unit {0}
Fails (fault.BadLine n) said = said ≡ Err (fault.BadLine n)
Fails (fault.OutsideFram n) said = said ≡ Err (fault.OutsideFram n)
Fails (fault.Twice n) said = said ≡ Err (fault.Twice n)
Fails (fault.BadMap n) said = said ≡ Err (fault.BadMap n)
Fails fault.NoReset said = said ≡ Err fault.NoReset

-- what a call returned, seen by `view`, is what the text says, unless memory was refused
abbrev pub Gives : {X A : Type 0} → (X → A) → Result X ImageFault → Result A ImageFault → Type 0
Gives view (Ok x) said = said ≡ Ok (view x)
Gives view (Err e) said = Fails e said
