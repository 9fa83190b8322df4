use Rattle.std.proofs.Common.{refl, arith}
use Rattle.cost_bound.specs.Counts.{emits_of, stores_of}
use Rattle.cost_bound.proofs.laws.allowance_rows.Goals as goal

pub returns : goal.returns
unfolding emits_of stores_of
returns c = record {
  running_sum_bound = refl;
  one_element_bound = refl;
  threshold_bound = refl;
  two_sums_bound = refl;
  one_store_words = λ length h. omega arith;
  two_loops_bound = refl;
  running_sum_words = refl;
  event_sum_bound = refl;
  event_sum_words = refl;
  two_events_bound = refl;
  two_events_words = refl;
  several_versions = refl;
  several_list = refl;
  several_bound = refl;
  long_sum_bound = refl;
  long_sum_words = refl;
  one_call_bound = refl;
  one_call_words = refl;
  one_call_stack = refl;
  chain_emits = refl;
  chain_routines = refl;
  chain_stack = refl;
  chain_versions = refl;
}
