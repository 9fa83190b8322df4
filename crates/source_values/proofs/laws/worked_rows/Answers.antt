use Rattle.std.proofs.Common.{refl}
use Rattle.source_values.proofs.laws.worked_rows.Goals as goal

pub returns : goal.returns
returns c = record {
  sums_wrap = refl;
  quotient_by_zero = refl;
  remainder_by_zero = refl;
  quotient_is_unsigned = refl;
  shift_of_int = refl;
  shift_of_unsigned = refl;
  less_of_ints = refl;
  less_of_int_and_unsigned = refl;
  literals = (refl, refl, refl, refl);
  index_at_the_length_reads_0 = refl;
  readings_from_the_left = refl;
  answers_from_the_left = refl;
  and_leaves_the_right_side = refl;
  and_takes_the_right_side = refl;
  or_leaves_the_right_side = refl;
  too_few_readings = refl;
  index_at_the_length_writes_nothing = refl;
  index_before_value = refl;
  turns_of_a_loop = refl;
  no_turns = refl;
  nothing_behind_a_transition = refl;
  short_of_a_reading = refl;
  zero_behind_the_last_answer = refl;
  an_answer_left_over = refl;
  shared_words_start_at_0 = refl;
  long_scalar = refl;
  long_sums_wrap = refl;
  long_differences_wrap = refl;
  int_becomes_long_by_its_sign = refl;
  unsigned_becomes_long_by_zeros = refl;
  long_negation = refl;
  long_complement = refl;
  not_of_a_long = refl;
  long_bits = (refl, refl, refl);
  longs_compare_unsigned = refl;
  longs_compare_by_the_high_word = refl;
  longs_are_equal_in_both_words = refl;
  long_shifts = (refl, refl, refl);
  long_types = (refl, refl, refl, refl, refl);
  long_takes_an_int = refl;
  word_takes_the_low_word = refl;
  local_takes_the_low_word = refl;
  emits_the_low_word = refl;
  long_starts_low_word_first = refl;
}
