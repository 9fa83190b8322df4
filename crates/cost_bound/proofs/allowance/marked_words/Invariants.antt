use Rattle.std.proofs.Common.{◌≡◌, ◌+◌, drop, false, slice_index_or}
use Rattle.cost_bound.specs.Table.{capped}
use Rattle.cost_bound.specs.Counts.{all_called_from}
use Rattle.cost_bound.specs.Machine.{known_of}
use Rattle.cost_bound.proofs.allowance.marked_words.Given as goal

abbrev pub invariant-loop-k : goal.invariant-loop-k
invariant-loop-k l = l.n ≡ capped (all_called_from (λ k. slice_index_or l.marks k false) (λ s. 40 + s.words) l.k (known_of (drop l.k l.functions)))
