use Rattle.function_locals.proofs.Loops.{Made}
use Rattle.function_locals.proofs.locals.all_locals.Given as goal

abbrev pub invariant-loop-i : goal.invariant-loop-i
invariant-loop-i l = Made l.functions l.i l.known.items
