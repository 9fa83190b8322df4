-- The rows of numerals compute.
use Rattle.std.proofs.Common.{refl}
use Rattle.alp_text.specs.Numbers.{digit_of}
use Rattle.task_lex.specs.Pieces.{number_to, numeral}
use Rattle.task_lex.specs.Numerals.{NumeralRows}

pub numeral_rows : NumeralRows
unfolding number_to numeral digit_of
numeral_rows = record {
  zero = refl;
  decimal = refl;
  greatest = refl;
  too_great = refl;
  leading_zero = refl;
  two_zeros = refl;
  hexadecimal = refl;
  hexadecimal_zeros = refl;
  greatest_hexadecimal = refl;
  too_great_hexadecimal = refl;
  no_digit = refl;
  upper_case_prefix = refl;
  letter_at_the_end = refl;
  line_at_the_end = refl;
  no_hexadecimal_letter = refl;
  long_zero = refl;
  long_of_one_word = refl;
  long = refl;
  greatest_long = refl;
  too_great_long = refl;
  hexadecimal_long = refl;
  too_great_hexadecimal_long = refl;
  long_with_a_leading_zero = refl;
  suffix_without_a_digit = refl;
  half_a_suffix = refl;
  suffix_in_small_letters = refl;
  two_suffixes = refl;
}
