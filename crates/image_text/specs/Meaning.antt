-- When lines are an image, and which fault is the first, said by the lines themselves.
use Rattle.std.specs.Prelude.{◌≡◌, ℕ, ◌+◌, ◌-◌, ◌*◌, ◌<◌, ◌≤◌, ◌⊎◌, true, nat_le, if◌then◌else◌, List, [], ◌∷◌, ◌++◌, length, map, Option, Some, None, Ok, Err}
use Rattle.std.specs.Prelude.{Result, slice_get, slice_index, is_some, unwrap_or}
use Rattle.std.specs.Option.{option_or}
use Rattle.text_parts.specs.Fields.{fields, no_fields}
use Rattle.image_map.specs.address_space.Limits.{fram_first, fram_end, fram_words}
use Rattle.image_map.specs.declared.fault.MapFault.TheVariants as map_fault
use Rattle.image_text.specs.declared.fault.ImageFault.{ImageFault}
use Rattle.image_map.specs.MapValue.{MapValue}
use Rattle.image_map.specs.Reading.{map_lines}
use Rattle.image_text.specs.ImageValue.{ImageValue}
use Rattle.image_text.specs.Line.{LineMeaning, nothing, address, bytes, quit, line_says}
use Rattle.image_text.specs.Reading.{Front}
use Rattle.image_text.specs.declared.fault.ImageFault.TheVariants as fault

-- so many bytes behind an address
abbrev pub moved : ℕ → Option ℕ → Option ℕ
moved n None = None
moved n (Some a) = Some (a + n)

-- the address of the next byte behind lines
abbrev pub next_address : Option ℕ → List LineMeaning → Option ℕ
next_address a [] = a
next_address a (nothing ∷ ms) = next_address a ms
next_address a (address b ∷ ms) = next_address (Some b) ms
next_address a (bytes bs ∷ ms) = next_address (moved (length bs) a) ms
next_address a (quit ∷ ms) = next_address a ms

-- the byte that bytes from an address on give at x, if one does
abbrev pub byte_from : Option ℕ → List ℕ → ℕ → Option ℕ
byte_from None bs x = None
byte_from (Some a) bs x = if nat_le a x then slice_get bs (x - a) else None

-- the byte that lines give at x, if one does; `a` is the address of the next byte before them
abbrev pub byte_at : Option ℕ → List LineMeaning → ℕ → Option ℕ
byte_at a [] x = None
byte_at a (nothing ∷ ms) x = byte_at a ms x
byte_at a (address b ∷ ms) x = byte_at (Some b) ms x
byte_at a (bytes bs ∷ ms) x = option_or (byte_from a bs x) (byte_at (moved (length bs) a) ms x)
byte_at a (quit ∷ ms) x = byte_at a ms x

-- the byte that lines of a text give at x
abbrev pub given : List LineMeaning → ℕ → Option ℕ
given ms x = byte_at None ms x

-- bytes behind lines: at an address, in the FRAM, where no line gave a byte
pub record Fits (ms : List LineMeaning) (bs : List ℕ) : Type 0 where
  pub place : ℕ
  pub here : next_address None ms ≡ Some place
  pub low : fram_first ≤ place
  pub high : place + length bs ≤ fram_end
  pub free : (x : ℕ) → place ≤ x → x < place + length bs → given ms x ≡ None

-- a line behind others that isn't the end, and whose bytes fit
abbrev pub GoesOn : List LineMeaning → LineMeaning → Type 0
GoesOn ms nothing = Unit {0}
GoesOn ms (address a) = Unit {0}
GoesOn ms (bytes bs) = Fits ms bs
GoesOn ms quit = ⊥

-- each of these lines goes on behind the earlier ones
abbrev pub AllGoOn : List LineMeaning → List LineMeaning → Type 0
AllGoOn before [] = Unit {0}
AllGoOn before (m ∷ ms) = GoesOn before m × AllGoOn (before ++ m ∷ []) ms

-- lines before the end, and what they say
pub record AreLines (ls : List (List ℕ)) (ms : List LineMeaning) : Type 0 where
  pub says : map line_says ls ≡ map Some ms
  pub go_on : AllGoOn [] ms

-- no line of an image, or bytes with no address
abbrev pub IsBadLine : List LineMeaning → Option LineMeaning → Type 0
IsBadLine ms said = (said ≡ None) ⊎ ((bs : List ℕ) × (said ≡ Some (bytes bs)) × (next_address None ms ≡ None))

-- bytes of which one is outside the FRAM
abbrev pub IsOutside : List LineMeaning → Option LineMeaning → Type 0
IsOutside ms said = (bs : List ℕ) × (a : ℕ) × (said ≡ Some (bytes bs)) × (next_address None ms ≡ Some a) × ((a < fram_first) ⊎ (fram_end < a + length bs))

-- bytes in the FRAM, at one of which an earlier line gave a byte
abbrev pub IsTwice : List LineMeaning → Option LineMeaning → Type 0
IsTwice ms said = (bs : List ℕ) × (a : ℕ) × (x : ℕ) × (said ≡ Some (bytes bs)) × (next_address None ms ≡ Some a)
    × (fram_first ≤ a) × (a + length bs ≤ fram_end) × (a ≤ x) × (x < a + length bs) × (is_some (given ms x) ≡ true)

-- the lines before the n-th go on, and the n-th has a fault behind them
pub record FaultAt (ls : List (List ℕ)) (n : ℕ) (IsFault : List LineMeaning → Option LineMeaning → Type 0) : Type 0 where
  pub before : List (List ℕ)
  pub line : List ℕ
  pub behind : List (List ℕ)
  pub made : ls ≡ before ++ line ∷ behind
  pub number : n ≡ length before + 1
  pub meanings : List LineMeaning
  pub lines : AreLines before meanings
  pub fault : IsFault meanings (line_says line)

-- the lines go on up to a `q`, behind which stand the rest, from line n on
pub record EndsAt (ls : List (List ℕ)) (ms : List LineMeaning) (rest : List (List ℕ)) (n : ℕ) : Type 0 where
  pub before : List (List ℕ)
  pub line : List ℕ
  pub made : ls ≡ before ++ line ∷ rest
  pub number : n ≡ length before + 2
  pub lines : AreLines before ms
  pub quit : line_says line ≡ Some quit

-- the lines end, both bytes of the reset vector are given, and these are the words: low byte first, 0 where no byte is given
pub record IsImageOf (ms : List LineMeaning) (words : List ℕ) : Type 0 where
  pub len : length words ≡ fram_words
  pub each : (k : ℕ) → k < fram_words
      → slice_index words k ≡ unwrap_or (given ms (fram_first + 2 * k)) 0 + 256 * unwrap_or (given ms (fram_first + 2 * k + 1)) 0

-- both bytes of the reset vector are given
abbrev pub HasReset : List LineMeaning → Type 0
HasReset ms = (is_some (given ms 65534) ≡ true) × (is_some (given ms 65535) ≡ true)

-- lines of blanks
abbrev pub AreBlank : List (List ℕ) → Type 0
AreBlank [] = Unit {0}
AreBlank (l ∷ ls) = (no_fields (fields l) ≡ true) × AreBlank ls

-- lines behind an image, from the n-th on, say its map: there is none where all are blank, else all lines are those of the map
abbrev pub IsMapOf : List (List ℕ) → ℕ → Option MapValue → Type 0
IsMapOf ls n None = AreBlank ls
IsMapOf ls n (Some m) = (k : ℕ) × (map_lines n ls ≡ Ok (record { value = m; rest = []; line = k }))

-- a line of blanks isn't the only kind among these
abbrev pub NotBlank : List (List ℕ) → Type 0
NotBlank ls = AreBlank ls → ⊥

-- lines from the n-th on break the form or a rule of maps first with line m: they break it there, or a map ends before line m, which is one more
abbrev pub IsBadMap : List (List ℕ) → ℕ → ℕ → Type 0
IsBadMap ls n m = NotBlank ls × ((map_lines n ls ≡ Err (map_fault.BadMap m))
    ⊎ ((v : MapValue) × (l : List ℕ) × (rest : List (List ℕ)) × (map_lines n ls ≡ Ok (record { value = v; rest = l ∷ rest; line = m }))))

-- what lines come to up to `q`: the words that they give, with the lines behind, or the first fault; nothing is said where memory was refused
abbrev pub IsFrontOf : List (List ℕ) → Result Front ImageFault → Type 0
IsFrontOf ls (Ok f) = (ms : List LineMeaning) × EndsAt ls ms f.rest f.line × HasReset ms × IsImageOf ms f.words
IsFrontOf ls (Err (fault.BadLine n)) = FaultAt ls n IsBadLine ⊎ ((ms : List LineMeaning) × AreLines ls ms × (n ≡ length ls + 1))
IsFrontOf ls (Err (fault.OutsideFram n)) = FaultAt ls n IsOutside
IsFrontOf ls (Err (fault.Twice n)) = FaultAt ls n IsTwice
IsFrontOf ls (Err fault.NoReset) =
    (ms : List LineMeaning) × (rest : List (List ℕ)) × (n : ℕ) × EndsAt ls ms rest n × ((given ms 65534 ≡ None) ⊎ (given ms 65535 ≡ None))
IsFrontOf ls (Err (fault.BadMap n)) = ⊥
IsFrontOf ls (Err fault.Memory) = Unit {0}

-- what lines come to: an image that they are, or the first fault; nothing is said where memory was refused
abbrev pub IsMeaningOf : List (List ℕ) → Result ImageValue ImageFault → Type 0
IsMeaningOf ls (Ok v) =
    (ms : List LineMeaning) × (rest : List (List ℕ)) × (n : ℕ) × EndsAt ls ms rest n × HasReset ms × IsMapOf rest n v.map × IsImageOf ms v.words
IsMeaningOf ls (Err (fault.BadLine n)) = IsFrontOf ls (Err (fault.BadLine n))
IsMeaningOf ls (Err (fault.OutsideFram n)) = IsFrontOf ls (Err (fault.OutsideFram n))
IsMeaningOf ls (Err (fault.Twice n)) = IsFrontOf ls (Err (fault.Twice n))
IsMeaningOf ls (Err fault.NoReset) = IsFrontOf ls (Err fault.NoReset)
IsMeaningOf ls (Err (fault.BadMap m)) = (ms : List LineMeaning) × (rest : List (List ℕ)) × (n : ℕ) × EndsAt ls ms rest n × HasReset ms × IsBadMap rest n m
IsMeaningOf ls (Err fault.Memory) = Unit {0}
