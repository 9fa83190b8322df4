use Rattle.privatise.proofs.VariablesPlaced.{PlacedBelow}
use Rattle.privatise.proofs.variables.place_variables.Given as goal

abbrev pub invariant-loop-i : goal.invariant-loop-i
invariant-loop-i l = PlacedBelow l.shared l.written l.fn.free l.i l.next l.places.items
