use Rattle.std.proofs.Common.{refl}
use Rattle.source_values.proofs.laws.worked_calls.Goals as goal

pub returns : goal.returns
returns c = record {
  parts_from_the_left = refl;
  target_behind_the_value = refl;
  index_before_value = refl;
  values_from_the_left = refl;
  and_leaves_a_call = refl;
  or_leaves_a_call = refl;
  and_asks_a_call = refl;
  return_leaves_a_loop = refl;
  loop_without_a_return = refl;
  reading_in_a_function = refl;
  too_few_readings = refl;
  short_in_a_function = refl;
  call_of_one_in_front = refl;
  no_such_function = refl;
  counts_of_emits = refl;
  emits_of_a_call = refl;
  emits_of_a_condition = refl;
}
