use Rattle.std.proofs.Common.{◌≡◌, ℕ, drop}
use Rattle.path_checks.specs.Walks.{is_assigned, IsBehind}
use Rattle.path_checks.specs.Ways.{ended}
use Rattle.path_checks.proofs.ways.put_ends.Given as goal

abbrev pub invariant-loop-i : goal.invariant-loop-i
invariant-loop-i l = record {
  assigned : (x : ℕ) → is_assigned l.walk x ≡ ended (drop l.i l.ends) x (is_assigned l.initial.walk x);
  behind : IsBehind l.initial.walk l.walk;
  falls_through : l.walk.falls_through ≡ l.initial.walk.falls_through;
  fault : l.walk.fault ≡ l.initial.walk.fault;
}
