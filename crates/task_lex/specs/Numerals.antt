-- Numerals of the language and what they are worth, by C's rules for decimal and hexadecimal constants, but that a
-- decimal one has no leading zero, and that the one suffix is `UL`.
use Rattle.std.specs.Prelude.{◌≡◌, ℕ, codes, Option, Some, None}
use Rattle.task_lex.specs.declared.token.Kind.TheVariants as k
use Rattle.task_lex.specs.declared.piece.Numeral.{Numeral}
use Rattle.task_lex.specs.Pieces.{numeral}

-- a number of one word, and one of two, whose high word comes last
abbrev pub a_number : ℕ → Option Numeral
a_number n = Some (record { kind = k.Number; value = n; high = 0 })

abbrev pub a_long_number : ℕ → ℕ → Option Numeral
a_long_number value high = Some (record { kind = k.LongNumber; value = value; high = high })

-- each row: a spelling, and its number or that it has none
pub record NumeralRows : Type 0 where
  pub zero : numeral (codes "0") ≡ a_number 0
  pub decimal : numeral (codes "42") ≡ a_number 42
  pub greatest : numeral (codes "65535") ≡ a_number 65535
  pub too_great : numeral (codes "65536") ≡ None
  pub leading_zero : numeral (codes "042") ≡ None
  pub two_zeros : numeral (codes "00") ≡ None
  pub hexadecimal : numeral (codes "0x1c2F") ≡ a_number 7215
  pub hexadecimal_zeros : numeral (codes "0x00010") ≡ a_number 16
  pub greatest_hexadecimal : numeral (codes "0xffff") ≡ a_number 65535
  pub too_great_hexadecimal : numeral (codes "0x10000") ≡ None
  pub no_digit : numeral (codes "0x") ≡ None
  pub upper_case_prefix : numeral (codes "0X10") ≡ None
  pub letter_at_the_end : numeral (codes "12a") ≡ None
  pub line_at_the_end : numeral (codes "12_") ≡ None
  pub no_hexadecimal_letter : numeral (codes "0x1g") ≡ None
  pub long_zero : numeral (codes "0UL") ≡ a_long_number 0 0
  pub long_of_one_word : numeral (codes "65535UL") ≡ a_long_number 65535 0
  pub long : numeral (codes "65536UL") ≡ a_long_number 0 1
  pub greatest_long : numeral (codes "4294967295UL") ≡ a_long_number 65535 65535
  pub too_great_long : numeral (codes "4294967296UL") ≡ None
  pub hexadecimal_long : numeral (codes "0x12345678UL") ≡ a_long_number 22136 4660
  pub too_great_hexadecimal_long : numeral (codes "0x100000000UL") ≡ None
  pub long_with_a_leading_zero : numeral (codes "042UL") ≡ None
  pub suffix_without_a_digit : numeral (codes "0xUL") ≡ None
  pub half_a_suffix : numeral (codes "12U") ≡ None
  pub suffix_in_small_letters : numeral (codes "12ul") ≡ None
  pub two_suffixes : numeral (codes "12ULUL") ≡ None
