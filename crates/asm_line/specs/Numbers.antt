-- Numbers as an assembler text spells them: decimal, or hexadecimal behind `0x`, of any length.
use Rattle.std.specs.Prelude.{ℕ, ◌+◌, ◌*◌, ◌%◌, nat_lt, nat_le, nat_eq, if◌then◌else◌, List, [], ◌∷◌, length, drop, codes, Option, Some, None, option_map}
use Rattle.std.specs.List.{starts_with}
use Rattle.text_parts.specs.Hex.{hex_digit}
pub use Rattle.text_parts.specs.Sequence.{◌>>?◌}
use Rattle.asm_line.specs.declared.numbers.Numeral.{Numeral}

-- a digit of a base up to 16
abbrev pub below : ℕ → ℕ → Option ℕ
below base v = if nat_lt v base then Some v else None

-- the value of a digit of a base up to 16, in either case
unfoldable pub digit : ℕ → ℕ → Option ℕ
digit base b = hex_digit b >>? below base

-- the number that digits write behind those of n
abbrev pub number_after : ℕ → ℕ → List ℕ → Option ℕ
number_after base n [] = Some n
number_after base n (d ∷ ds) = digit base d >>? λ v. number_after base (n * base + v) ds

-- a number modulo 65536, and whether it is 65536 or more
unfoldable pub reduced : ℕ → Numeral
reduced n = record { residue = n % 65536; large = nat_le 65536 n }

-- at least one digit of a base
unfoldable pub numeral_of : ℕ → List ℕ → Option Numeral
numeral_of base ds = if nat_lt 0 (length ds) then option_map reduced (number_after base 0 ds) else None

-- the number that a text spells: decimal digits, or hexadecimal ones behind `0x`; nothing for another text
unfoldable pub number_of : List ℕ → Option Numeral
number_of text = if starts_with nat_eq text (codes "0x") then numeral_of 16 (drop 2 text) else numeral_of 10 text
