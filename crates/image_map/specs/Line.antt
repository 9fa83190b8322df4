-- What the lines of a map say. One blank parts the fields of a line.
use Rattle.std.specs.Prelude.{ℕ, ◌+◌, ◌-◌, ◌*◌, ◌^◌, ◌==◌, ◌&&◌, ◌||◌, Bool, true, false, not, nat_le, nat_eq, if◌then◌else◌, List, [], ◌∷◌, Option}
use Rattle.std.specs.Prelude.{Some, None, codes}
use Rattle.std.specs.Str.{bytes_eq}
use Rattle.std.specs.List.{starts_with}
use Rattle.alp_text.specs.Numbers.{number_of, limited}
pub use Rattle.alp_text.specs.Sequence.{◌>>?◌}
use Rattle.text_parts.specs.Fields.{fields, is_blank, no_fields}
use Rattle.image_map.specs.declared.parts.RuntimeWords.{RuntimeWords}
use Rattle.image_map.specs.declared.parts.Place.{Place}
use Rattle.image_map.specs.declared.parts.RingPlaces.{RingPlaces}
use Rattle.image_map.specs.declared.line.FourAddresses.{FourAddresses}
use Rattle.image_map.specs.declared.parts.ValueType.{ValueType}
use Rattle.image_map.specs.declared.parts.ValueType.TheVariants as value_type
use Rattle.image_map.specs.declared.parts.Variable.{Variable}
use Rattle.image_map.specs.Names.{name_of}
use Rattle.image_map.specs.MapValue.{is_fram_word, fits, ring_words, IsFramWord}

-- whether each blank of a line is a space with another byte before and behind it; `apart` says whether a blank stands before, or nothing
abbrev pub single_from : Bool → List ℕ → Bool
single_from apart [] = not apart
single_from apart (b ∷ bs) = if is_blank b && (apart || not (b == 32)) then false else single_from (is_blank b) bs

-- the fields of a line in which one space parts them; none of another line
unfoldable pub line_fields : List ℕ → List (List ℕ)
line_fields line = if single_from true line then fields line else []

-- the value, where nothing stands behind it
abbrev pub alone : {A : Type 0} → List (List ℕ) → A → Option A
alone fs x = if no_fields fs then Some x else None

-- the value of a digit of an address: upper case
unfoldable pub address_digit : ℕ → Option ℕ
address_digit b = if nat_le 48 b && nat_le b 57 then Some (b - 48)
    else (if nat_le 65 b && nat_le b 70 then Some (b - 55)
    else None)

-- an even address of the FRAM
abbrev pub fram_word : ℕ → Option ℕ
fram_word a = if is_fram_word a then Some a else None

-- an address: four hexadecimal digits, even and in the FRAM
abbrev pub address_of : List ℕ → Option ℕ
address_of [] = None
address_of (a ∷ []) = None
address_of (a ∷ b ∷ []) = None
address_of (a ∷ b ∷ c ∷ []) = None
address_of (a ∷ b ∷ c ∷ d ∷ []) = address_digit a >>? λ a. address_digit b >>? λ b. address_digit c >>? λ c. address_digit d >>? λ d.
    fram_word (4096 * a + 256 * b + 16 * c + d)
address_of (a ∷ b ∷ c ∷ d ∷ e ∷ ds) = None

-- a number in decimal digits, below a limit; leading zeros are fine
abbrev pub decimal_below : ℕ → List ℕ → Option ℕ
decimal_below limit field = if starts_with nat_eq field (codes "0x") then None else limited limit (number_of field)

-- how a variable's words are read
abbrev pub type_of : List ℕ → Option ValueType
type_of field = if bytes_eq field (codes "unsigned") then Some value_type.Unsigned
    else (if bytes_eq field (codes "int") then Some value_type.Int
    else (if bytes_eq field (codes "long") then Some value_type.Long
    else None))

-- the first field as an address, and the others
abbrev pub next_address : List (List ℕ) → Option (ℕ × List (List ℕ))
next_address [] = None
next_address (f ∷ fs) = address_of f >>? λ a. Some (a, fs)

-- the first field as a number, and the others
abbrev pub next_number : List (List ℕ) → Option (ℕ × List (List ℕ))
next_number [] = None
next_number (f ∷ fs) = decimal_below (2 ^ 32) f >>? λ n. Some (n, fs)

-- the first field as the length of an array, and the others; a length of 65536 or more doesn't fit the FRAM
abbrev pub next_length : List (List ℕ) → Option (ℕ × List (List ℕ))
next_length [] = None
next_length (f ∷ fs) = decimal_below (2 ^ 16) f >>? λ n. Some (n, fs)

-- the first field as a name, and the others
abbrev pub next_name : List (List ℕ) → Option (List ℕ × List (List ℕ))
next_name [] = None
next_name (f ∷ fs) = name_of f >>? λ n. Some (n, fs)

-- the first field as a type, and the others
abbrev pub next_type : List (List ℕ) → Option (ValueType × List (List ℕ))
next_type [] = None
next_type (f ∷ fs) = type_of f >>? λ t. Some (t, fs)

-- what stands behind a word that begins a line
abbrev pub behind : List ℕ → List (List ℕ) → Option (List (List ℕ))
behind word [] = None
behind word (f ∷ fs) = if bytes_eq f word then Some fs else None

-- `map`
abbrev pub start_of : List (List ℕ) → Option Bool
start_of fs = behind (codes "map") fs >>? λ fs. alone fs true

-- `bound B`
abbrev pub bound_of : List (List ℕ) → Option ℕ
bound_of fs = behind (codes "bound") fs >>? λ fs. next_number fs >>? λ n. alone n.1 n.0

-- four words of the FRAM
pub record AreFour (f : FourAddresses) : Type 0 where
  pub first : IsFramWord f.first
  pub second : IsFramWord f.second
  pub third : IsFramWord f.third
  pub fourth : IsFramWord f.fourth

-- the first four fields as addresses, and the others
abbrev pub next_four : List (List ℕ) → Option (FourAddresses × List (List ℕ))
next_four fs = next_address fs >>? λ a. next_address a.1 >>? λ b. next_address b.1 >>? λ c. next_address c.1 >>? λ d.
    Some (record { first = a.0; second = b.0; third = c.0; fourth = d.0 }, d.1)

-- the runtime's words at eight addresses
abbrev pub words_at : FourAddresses → FourAddresses → RuntimeWords
words_at head tail = record {
  current_task = head.first;
  next_task = head.second;
  gate = head.third;
  list_length = head.fourth;
  emit_count = tail.first;
  base = tail.second;
  sent_base = tail.third;
  version = tail.fourth;
}

-- `words CUR NEXT GATE CLN EN BASE SB VER`
abbrev pub words_of : List (List ℕ) → Option RuntimeWords
words_of fs = behind (codes "words") fs >>? λ fs. next_four fs >>? λ head. next_four head.1 >>? λ tail. alone tail.1 (words_at head.0 tail.0)

-- `list ADDRESS N`, `emits ADDRESS N`, `versions ADDRESS N` or `copies ADDRESS N`, by the first word
abbrev pub place_of : List ℕ → List (List ℕ) → Option Place
place_of word fs = behind word fs >>? λ fs. next_address fs >>? λ a. next_number a.1 >>? λ n. alone n.1 (record { address = a.0; capacity = n.0 })

-- a ring with these words and so many slots from an address on: as many as a ring has, and all in the FRAM
abbrev pub ring_at : FourAddresses → ℕ → ℕ → ℕ → Option RingPlaces
ring_at four answer slots n = if (n == ring_words) && fits slots ring_words then Some (record {
  head = four.first;
  tail = four.second;
  event_count = four.third;
  sent_tail = four.fourth;
  answer = answer;
  slots = slots;
})
    else None

-- `ring HEAD TAIL EC SE ANS ADDRESS 64`
abbrev pub ring_of : List (List ℕ) → Option RingPlaces
ring_of fs = behind (codes "ring") fs >>? λ fs. next_four fs >>? λ four. next_address four.1 >>? λ answer. next_address answer.1 >>? λ slots.
    next_length slots.1 >>? λ n. if no_fields n.1 then ring_at four.0 answer.0 slots.0 n.0 else None

-- `NAME TYPE ADDRESS`
abbrev pub scalar_of : List (List ℕ) → Option Variable
scalar_of fs = next_name fs >>? λ n. next_type n.1 >>? λ t. next_address t.1 >>? λ a.
    alone a.1 (record { name = n.0; value_type = t.0; address = a.0; length = None })

-- `NAME TYPE ADDRESS N`
abbrev pub array_of : List (List ℕ) → Option Variable
array_of fs = next_name fs >>? λ n. next_type n.1 >>? λ t. next_address t.1 >>? λ a. next_length a.1 >>? λ l.
    alone l.1 (record { name = n.0; value_type = t.0; address = a.0; length = Some l.0 })

-- `NAME`
abbrev pub lone_name : List (List ℕ) → Option (List ℕ)
lone_name fs = next_name fs >>? λ n. alone n.1 n.0

-- a word and a number below 65536
abbrev pub number_behind : List ℕ → List (List ℕ) → Option ℕ
number_behind word fs = behind word fs >>? λ fs. next_length fs >>? λ n. alone n.1 n.0
