use Rattle.std.proofs.Common.{◌≡◌, ◌+◌, length}
use Rattle.fram_board.specs.Events.{arrived}
use Rattle.fram_board.proofs.events.Events.arise_due.Given as goal

abbrev pub invariant-loop-i : goal.invariant-loop-i
invariant-loop-i l = (l.count ≡ l.i + length l.self.coming) × (arrived l.self ≡ arrived l.fn.self)
