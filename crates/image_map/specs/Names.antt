-- Names of variables and tasks.
use Rattle.std.specs.Prelude.{ℕ, ◌==◌, ◌&&◌, ◌||◌, not, Bool, false, nat_le, if◌then◌else◌, List, [], ◌∷◌, length, Option, Some, None}
use Rattle.std.specs.List.{list_all}
use Rattle.std.specs.Char.{is_ascii_digit, is_ascii_alphanumeric}

-- a letter, a digit or `_`
abbrev pub is_name_byte : ℕ → Bool
is_name_byte b = is_ascii_alphanumeric b || b == 95

-- 1 to 31 letters, digits and `_`, of which the first is no digit
abbrev pub is_name : List ℕ → Bool
is_name [] = false
is_name (b ∷ bs) = nat_le (length (b ∷ bs)) 31 && (not (is_ascii_digit b) && list_all is_name_byte (b ∷ bs))

-- the name that a text is
abbrev pub name_of : List ℕ → Option (List ℕ)
name_of text = if is_name text then Some text else None
