use Rattle.std.proofs.Common.{◌≡◌, ℕ, false, drop, get_or}
use Rattle.path_checks.specs.Walks.{turned_back}
use Rattle.path_checks.proofs.walk.flip.Given as goal

abbrev pub invariant-loop-i : goal.invariant-loop-i
invariant-loop-i l = (y : ℕ) → get_or l.assigned.items y false ≡ turned_back (drop l.i l.turned) y (get_or l.initial.assigned.items y false)
