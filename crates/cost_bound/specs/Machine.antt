-- The summaries as 64 bits and tables keep them.
use Rattle.std.specs.Prelude.{◌≡◌, ◌<◌, ℕ, false, List, length, map, slice_get, slice_index, slice_index_or, Some}
use Rattle.cost_bound.specs.Summary.{Summary}
use Rattle.cost_bound.specs.Table.{capped}
use Rattle.cost_bound.specs.declared.function_summaries.FunctionSummary.{FunctionSummary}

-- what the tables of a summary say
abbrev pub summary_of : FunctionSummary → Summary
summary_of s = record {
  cycles = s.cycles;
  words = s.words;
  emits = s.emits;
  stores = λ i. slice_index s.stores i;
  assigns = λ i. slice_index_or s.assigns i false;
  reaches = λ k. slice_index_or s.reaches k false;
  depth = s.depth;
}

abbrev pub known_of : List FunctionSummary → List Summary
known_of kept = map summary_of kept

-- two summaries are the same as far as 64 bits keep them, for 256 variables and functions
pub record IsSame (a b : Summary) : Type 0 where
  pub cycles : capped a.cycles ≡ capped b.cycles
  pub words : capped a.words ≡ capped b.words
  pub emits : capped a.emits ≡ capped b.emits
  pub stores : (i : ℕ) → i < 256 → capped (a.stores i) ≡ capped (b.stores i)
  pub assigns : (i : ℕ) → i < 256 → a.assigns i ≡ b.assigns i
  pub reaches : (k : ℕ) → k < 256 → a.reaches k ≡ b.reaches k
  pub depth : capped a.depth ≡ capped b.depth

-- the same of lists of them
pub record AreSame (a b : List Summary) : Type 0 where
  pub count : length a ≡ length b
  pub each : (k : ℕ) (s t : Summary) → slice_get a k ≡ Some s → slice_get b k ≡ Some t → IsSame s t
