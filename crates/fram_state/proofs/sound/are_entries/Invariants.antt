use Rattle.std.proofs.Common.{◌≡◌, length}
use Rattle.fram_state.specs.Sound.{are_entries, entries_of}
use Rattle.fram_state.proofs.sound.are_entries.Given as goal

abbrev pub invariant-loop-left : goal.invariant-loop-left
invariant-loop-left l = are_entries l.map (entries_of l.left) l.room ≡ are_entries l.map (entries_of l.list) l.map.list.capacity

abbrev pub decreases-loop-left : goal.decreases-loop-left
decreases-loop-left l = length l.left
