use Rattle.std.proofs.Common.{◌≡◌, drop}
use Rattle.task_check.specs.Walks.{HasGlobals, counts_in}
use Rattle.task_check.proofs.walk.globals_of.Given as goal

abbrev pub invariant-loop-i : goal.invariant-loop-i
invariant-loop-i l = HasGlobals l.source (drop l.i l.names) l.globals × (l.counts ≡ counts_in (drop l.i l.names))
