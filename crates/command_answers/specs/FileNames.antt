-- How a line of standard error tells the name of a file.
use Rattle.std.specs.Prelude.{◌≡◌, ℕ, Bool, IsTrue, List, [], ◌∷◌, ◌++◌, codes, drop, flat_map, if◌then◌else◌, not}
use Rattle.std.specs.Char.{is_ascii_control}
use Rattle.std.specs.List.{list_all}
use Rattle.alp_text.specs.Numbers.{hex4}

-- `\x` and the two lower-case hexadecimal digits of a byte, the last of four
unfoldable pub escaped : ℕ → List ℕ
escaped b = codes "\\x" ++ drop 2 (hex4 b)

-- a byte of a name: a control character, which is one below 0x20 or 0x7f, by its number; any other as it is
abbrev pub told_byte : ℕ → List ℕ
told_byte b = if is_ascii_control b then escaped b else b ∷ []

-- A name as a line tells it, so that a line is one line whatever the name holds. Nothing else is changed, a backslash neither:
-- a name that spells `\x0a` is told as one with a line feed there.
abbrev pub told_name : List ℕ → List ℕ
told_name = flat_map told_byte

-- no byte is a control character
abbrev pub is_plain : List ℕ → Bool
is_plain name = list_all (λ b. not (is_ascii_control b)) name

-- what is told has no control character; and a name that has none is told as it is
pub record IsToldPlainly (name : List ℕ) : Type 0 where
  pub plain : IsTrue (is_plain (told_name name))
  pub same : IsTrue (is_plain name) → told_name name ≡ name

-- names, and how they are told
pub record NameRows : Type 0 where
  pub usual : told_name (codes "a b.alp") ≡ codes "a b.alp"
  pub two_lines : told_name (codes "a\nrefused b") ≡ codes "a\\x0arefused b"
  pub escape_and_delete : told_name (codes "\u{1b}[2J\u{7f}") ≡ codes "\\x1b[2J\\x7f"
  pub backslash : told_name (codes "\\x0a") ≡ codes "\\x0a"
