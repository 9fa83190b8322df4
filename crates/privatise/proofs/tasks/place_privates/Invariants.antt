use Rattle.std.proofs.Common.{take}
use Rattle.privatise.specs.Placing.{ArePrivates}
use Rattle.privatise.proofs.tasks.place_privates.Given as goal

abbrev pub invariant-loop-number : goal.invariant-loop-number
invariant-loop-number l = ArePrivates l.variables (take l.number-index l.numbers) l.privates.items
