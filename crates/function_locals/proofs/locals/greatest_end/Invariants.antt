use Rattle.std.proofs.Common.{◌≡◌, drop, false, slice_index_or}
use Rattle.function_locals.specs.Locals.{greatest_end}
use Rattle.function_locals.proofs.locals.greatest_end.Given as goal

abbrev pub invariant-loop-k : goal.invariant-loop-k
invariant-loop-k l = l.n ≡ greatest_end (λ k. slice_index_or l.calls k false) l.k (drop l.k l.known)
