use Rattle.std.proofs.Common.{drop, false, slice_index_or}
use Rattle.cost_bound.specs.Counts.{some_called_from}
use Rattle.cost_bound.specs.Machine.{known_of}
use Rattle.cost_bound.specs.Rooms.{AreMarked}
use Rattle.cost_bound.proofs.marks.mark_what_calls_assign.Given as goal

abbrev pub invariant-loop-k : goal.invariant-loop-k
invariant-loop-k l = AreMarked l.fn.marks l.marks
    (λ i. some_called_from (λ k. slice_index_or l.calls k false) (λ s. s.assigns i) l.k (known_of (drop l.k l.functions)))
