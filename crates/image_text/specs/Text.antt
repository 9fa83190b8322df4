-- An image as a TI-TXT text: its sections of words that are shown, then its map.
use Rattle.std.specs.Prelude.{◌≡◌, ◌<◌, ℕ, ◌+◌, ◌*◌, ◌/◌, ◌%◌, ◌==◌, ◌||◌, Bool, true, false, not, if◌then◌else◌, List, [], ◌∷◌, ◌++◌, length, map, Option}
use Rattle.std.specs.Prelude.{Some, None}
use Rattle.alp_words.specs.Words.{word_bytes}
use Rattle.image_map.specs.address_space.Limits.{fram_first}
use Rattle.image_map.specs.MapValue.{MapValue}
use Rattle.image_map.specs.Text.{map_fields}
use Rattle.text_parts.specs.Groups.{groups}
use Rattle.text_parts.specs.Hex.{upper_hex}
use Rattle.text_parts.specs.Printed.{printed}

-- a word is shown where it isn't 0, and the last one of the FRAM always
abbrev pub is_shown : ℕ → ℕ → Bool
is_shown j w = not (w == 0) || (j == 24063)

-- whether the word at a place is there and shown
abbrev pub begins_shown : ℕ → List ℕ → Bool
begins_shown j [] = false
begins_shown j (w ∷ ws) = is_shown j w

-- words in a row: the place of the first, counted in words from 4400 on, and the words
pub record Section : Type 0 where
  pub place : ℕ
  pub words : List ℕ

-- a word before the sections, in the first of them or alone
abbrev pub onto_section : ℕ → ℕ → Bool → List Section → List Section
onto_section j w true (r ∷ rs) = record { place = j; words = w ∷ r.words } ∷ rs
onto_section j w true [] = record { place = j; words = w ∷ [] } ∷ []
onto_section j w false rs = record { place = j; words = w ∷ [] } ∷ rs

-- the sections of words of which the first stands at a place
unfoldable pub sections : ℕ → List ℕ → List Section
sections j [] = []
sections j (w ∷ ws) = if is_shown j w then onto_section j w (begins_shown (j + 1) ws) (sections (j + 1) ws) else sections (j + 1) ws

-- the bytes of words, low byte first
unfoldable pub bytes_in : List ℕ → List ℕ
bytes_in [] = []
bytes_in (w ∷ ws) = word_bytes w ++ bytes_in ws

-- four upper-case hexadecimal digits
unfoldable pub upper_hex4 : ℕ → List ℕ
upper_hex4 w = upper_hex (w / 256) ++ upper_hex (w % 256)

-- the lines of a section: its address, then 16 bytes a line, which are 8 words
abbrev pub section_lines : Section → List (List (List ℕ))
section_lines s = ((64 ∷ upper_hex4 (fram_first + 2 * s.place)) ∷ []) ∷ map (map upper_hex) (map bytes_in (groups 8 s.words))

-- the lines of sections, then `q`
unfoldable pub lines_of_sections : List Section → List (List (List ℕ))
lines_of_sections [] = ((113 ∷ []) ∷ []) ∷ []
lines_of_sections (s ∷ ss) = section_lines s ++ lines_of_sections ss

-- the text of an image's words
unfoldable pub text_of : List ℕ → List ℕ
text_of ws = printed (lines_of_sections (sections 0 ws))

-- the lines of a map, where there is one
abbrev pub map_part : Option MapValue → List (List (List ℕ))
map_part None = []
map_part (Some m) = map_fields m

-- the two bytes of a word
abbrev pub pair_text : ℕ → List ℕ
pair_text w = upper_hex (w % 256) ++ 32 ∷ upper_hex (w / 256)

-- words, each behind a space
unfoldable pub tail_text : List ℕ → List ℕ
tail_text [] = []
tail_text (w ∷ ws) = 32 ∷ pair_text w ++ tail_text ws

-- each word in a row is shown, or none is
abbrev pub AreShown : Bool → ℕ → List ℕ → Type 0
AreShown t j [] = Unit {0}
AreShown t j (w ∷ ws) = (is_shown j w ≡ t) × AreShown t (j + 1) ws

-- words from a place on begin with words that aren't shown, then the section, all of whose words are shown, and behind it none is at once
pub record BeginsWithSection (j : ℕ) (ws : List ℕ) (s : Section) (rest : List ℕ) : Type 0 where
  pub gap : List ℕ
  pub made : ws ≡ gap ++ s.words ++ rest
  pub hidden : AreShown false j gap
  pub place : s.place ≡ j + length gap
  pub some : 0 < length s.words
  pub shown : AreShown true s.place s.words
  pub longest : begins_shown (s.place + length s.words) rest ≡ false
