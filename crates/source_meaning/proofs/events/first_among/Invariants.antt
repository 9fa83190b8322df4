use Rattle.std.proofs.Common.{take}
use Rattle.std.specs.Prelude.{All}
use Rattle.source_meaning.specs.Events.{NoEvent}
use Rattle.source_meaning.proofs.events.first_among.Given as goal

abbrev pub invariant-loop-i : goal.invariant-loop-i
invariant-loop-i l = All NoEvent (take l.i l.tokens)
