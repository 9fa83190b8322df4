-- What the proofs of other crates cite.

-- Sums over the shared variables, from what the walks kept.
pub use Rattle.cost_bound.proofs.Sums.{written_sum}
-- What is kept of functions, and what depends on it.
pub use Rattle.cost_bound.proofs.Called.{known_length, read_again, all_same}
pub use Rattle.cost_bound.proofs.Same.{price_same, emits_same, stores_same, assigns_same, reaches_same, scalars_same, list_same, own_same, routines_same}
pub use Rattle.cost_bound.proofs.Same.{bound_same, words_same, written_same, stack_same, greatest_same, total_same, first_same, rest_same}
