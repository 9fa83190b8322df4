-- What a text says as a state: what it says as an image, and behind it the line of the receiver, if there is one.
use Rattle.std.specs.Prelude.{ℕ, ◌+◌, Bool, true, false, if◌then◌else◌, List, [], ◌∷◌, Option, Some, None, Result, Ok, Err, codes}
use Rattle.std.specs.Str.{bytes_eq}
use Rattle.text_parts.specs.Fields.{fields, no_fields}
use Rattle.text_parts.specs.Lines.{lines}
use Rattle.image_map.specs.declared.fault.MapFault.{MapFault}
use Rattle.image_map.specs.declared.fault.MapFault.TheVariants.{BadMap}
use Rattle.image_map.specs.MapValue.{MapValue}
use Rattle.image_map.specs.Line.{line_fields, number_behind}
use Rattle.image_map.specs.Reading.{map_lines}
use Rattle.image_text.specs.declared.fault.ImageFault.{ImageFault}
use Rattle.image_text.specs.Faults.{image_fault}
use Rattle.image_text.specs.Reading.{◌>>=◌, front_of}
use Rattle.state_text.specs.declared.state.State.{State}

-- the number of a line `receiver N`, below 65536
abbrev pub receiver_of : List ℕ → Option ℕ
receiver_of line = number_behind (codes "receiver") (line_fields line)

-- whether the first of some fields is the word of the receiver's line
abbrev pub names_receiver : List (List ℕ) → Bool
names_receiver [] = false
names_receiver (f ∷ fs) = bytes_eq f (codes "receiver")

-- the number that the n-th line says, behind which more lines may stand: the first of these is a line too many
abbrev pub number_said : ℕ → Option ℕ → List (List ℕ) → Result ℕ MapFault
number_said n None ls = Err (BadMap n)
number_said n (Some k) [] = Ok k
number_said n (Some k) (l ∷ ls) = Err (BadMap (n + 1))

-- the receiver's number that lines from the n-th on say, behind image and map: 0 where there is no line
abbrev pub number_of : ℕ → List (List ℕ) → Result ℕ MapFault
number_of n [] = Ok 0
number_of n (l ∷ ls) = number_said n (receiver_of l) ls

-- lines, and the number of the first of them
pub record Numbered : Type 0 where
  pub rest : List (List ℕ)
  pub line : ℕ

-- the lines from the n-th on, without the blank ones at their front
abbrev pub behind_blanks : ℕ → List (List ℕ) → Numbered
behind_blanks n [] = record { rest = []; line = n }
behind_blanks n (l ∷ ls) = if no_fields (fields l) then behind_blanks (n + 1) ls else record { rest = l ∷ ls; line = n }

-- whether lines say no map: there is none, or the first is the receiver's
abbrev pub says_no_map : List (List ℕ) → Bool
says_no_map [] = true
says_no_map (l ∷ ls) = names_receiver (fields l)

-- what stands behind the `q` of a state: its map, if there is one, and the receiver's number
pub record Tail : Type 0 where
  pub map : Option MapValue
  pub receiver : ℕ

-- the receiver's number behind blank lines
abbrev pub unmapped : Numbered → Result Tail MapFault
unmapped b = number_of b.line b.rest >>= λ k. Ok (record { map = None; receiver = k })

-- a map that the lines from the n-th on begin with, and the receiver's number behind it
abbrev pub mapped : ℕ → List (List ℕ) → Result Tail MapFault
mapped n ls = map_lines n ls >>= λ t. number_of t.line t.rest >>= λ k. Ok (record { map = Some t.value; receiver = k })

-- what the lines from the n-th on say behind the `q` of a state: a map stands there at once, or none where blank lines alone come before the
-- receiver's line or the end
unfoldable pub tail_of : ℕ → List (List ℕ) → Result Tail MapFault
tail_of n ls = if says_no_map (behind_blanks n ls).rest then unmapped (behind_blanks n ls) else mapped n ls

-- the fault of what stands behind the `q` as one of the whole text
abbrev pub as_fault : {A : Type 0} → Result A MapFault → Result A ImageFault
as_fault (Ok x) = Ok x
as_fault (Err e) = Err (image_fault e)

-- the state of words, and of what stands behind them
abbrev pub state_with : List ℕ → Tail → State
state_with words t = record { image = record { words = words; map = t.map }; receiver = t.receiver }

-- the state of words, and of what the lines from the n-th on say behind their `q`
abbrev pub state_behind : ℕ → List ℕ → List (List ℕ) → Result State MapFault
state_behind n words ls = tail_of n ls >>= λ t. Ok (state_with words t)

-- what lines say as a state, or their first fault
abbrev pub state_lines : List (List ℕ) → Result State ImageFault
state_lines ls = front_of ls >>= λ f. as_fault (state_behind f.line f.words f.rest)

-- what a text says as a state, or its first fault
abbrev pub state_of : List ℕ → Result State ImageFault
state_of text = state_lines (lines text)
