use Rattle.std.proofs.Common.{◌≡◌, drop, false, slice_index_or}
use Rattle.cost_bound.specs.Counts.{most_called_from}
use Rattle.cost_bound.specs.Machine.{known_of}
use Rattle.cost_bound.proofs.frames.greatest_depth.Given as goal

abbrev pub invariant-loop-k : goal.invariant-loop-k
invariant-loop-k l = l.n ≡ most_called_from (λ k. slice_index_or l.calls k false) (λ s. s.depth) l.k (known_of (drop l.k l.functions))
