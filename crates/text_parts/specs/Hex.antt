-- Hexadecimal digits: read in either case, printed in upper case.
use Rattle.std.specs.Prelude.{ℕ, ◌+◌, ◌-◌, ◌/◌, ◌%◌, nat_lt, nat_le, ◌&&◌, if◌then◌else◌, List, [], ◌∷◌, Option, Some, None}

-- the value of a digit, in either case
unfoldable pub hex_digit : ℕ → Option ℕ
hex_digit b = if nat_le 48 b && nat_le b 57 then Some (b - 48)
    else (if nat_le 65 b && nat_le b 70 then Some (b - 55)
    else (if nat_le 97 b && nat_le b 102 then Some (b - 87)
    else None))

-- the digit of a value below 16
abbrev pub upper_digit : ℕ → ℕ
upper_digit d = if nat_lt d 10 then 48 + d else 55 + d

-- the two digits of a byte
unfoldable pub upper_hex : ℕ → List ℕ
upper_hex b = upper_digit (b / 16) ∷ upper_digit (b % 16) ∷ []
