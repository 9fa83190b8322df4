use Rattle.privatise.proofs.RoutinesPlaced.{Placed, marked_by}
use Rattle.privatise.proofs.routines.place_marked.Given as goal

abbrev pub invariant-loop-k : goal.invariant-loop-k
invariant-loop-k l = Placed (marked_by l.marks l.stack l.address l.functions.summaries.now l.functions.locals.now) l.k l.at l.routines.items
