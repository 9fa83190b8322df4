-- What one line of a TI-TXT text says: `@` and an address, bytes, or `q` for the end.
use Rattle.std.specs.Prelude.{ℕ, ◌+◌, ◌*◌, ◌==◌, ◌&&◌, ◌||◌, Bool, true, false, nat_le, if◌then◌else◌, List, [], ◌∷◌, length, Option, Some, None}
use Rattle.text_parts.specs.Fields.{fields, begins_blank}
use Rattle.text_parts.specs.Hex.{hex_digit}
pub use Rattle.text_parts.specs.Sequence.{◌>>?◌}

-- a line says nothing, where the next byte stands, the next bytes, or that the image ends
pub data LineMeaning : Type 0 where
  nothing : LineMeaning
  address : ℕ → LineMeaning
  bytes : List ℕ → LineMeaning
  quit : LineMeaning

-- a byte: two hexadecimal digits
abbrev pub byte_of : List ℕ → Option ℕ
byte_of [] = None
byte_of (h ∷ []) = None
byte_of (h ∷ l ∷ []) = hex_digit h >>? λ h. hex_digit l >>? λ l. Some (16 * h + l)
byte_of (h ∷ l ∷ d ∷ ds) = None

-- bytes: each field is one
abbrev pub bytes_of : List (List ℕ) → Option (List ℕ)
bytes_of [] = Some []
bytes_of (f ∷ fs) = byte_of f >>? λ b. bytes_of fs >>? λ bs. Some (b ∷ bs)

-- the number that hexadecimal digits write behind those of n
abbrev pub hex_value : ℕ → List ℕ → Option ℕ
hex_value n [] = Some n
hex_value n (d ∷ ds) = hex_digit d >>? λ v. hex_value (16 * n + v) ds

-- an address: one to eight hexadecimal digits
abbrev pub address_of : List ℕ → Option ℕ
address_of ds = if nat_le 1 (length ds) && nat_le (length ds) 8 then hex_value 0 ds else None

-- a line of bytes
abbrev pub bytes_said : List (List ℕ) → Option LineMeaning
bytes_said fs = bytes_of fs >>? λ bs. Some (bytes bs)

-- a line of one field, which begins with b
abbrev pub field_says : ℕ → List ℕ → Option LineMeaning
field_says b bs = if b == 64 then (address_of bs >>? λ a. Some (address a))
    else (if (b == 113 || b == 81) && nat_le (length bs) 0 then Some quit
    else bytes_said ((b ∷ bs) ∷ []))

-- a line of fields
abbrev pub fields_say : List (List ℕ) → Option LineMeaning
fields_say [] = Some nothing
fields_say ([] ∷ fs) = None
fields_say ((b ∷ bs) ∷ []) = field_says b bs
fields_say ((b ∷ bs) ∷ f ∷ fs) = bytes_said ((b ∷ bs) ∷ f ∷ fs)

-- a line that begins with a blank says nothing at most
abbrev pub front_says : Bool → List (List ℕ) → Option LineMeaning
front_says true [] = Some nothing
front_says true (f ∷ fs) = None
front_says false fs = fields_say fs

-- what a line says; `None` where it is no line of an image
unfoldable pub line_says : List ℕ → Option LineMeaning
line_says line = front_says (begins_blank line) (fields line)
