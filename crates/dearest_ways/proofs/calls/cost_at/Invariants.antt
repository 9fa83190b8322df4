use Rattle.std.proofs.Common.{◌≡◌, drop}
use Rattle.dearest_ways.specs.Calls.{cost_at}
use Rattle.dearest_ways.proofs.calls.cost_at.Given as goal

abbrev pub invariant-loop-call : goal.invariant-loop-call
invariant-loop-call l = cost_at (drop l.call-index l.calls) l.entry ≡ cost_at l.calls l.entry
