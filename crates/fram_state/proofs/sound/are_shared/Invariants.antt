use Rattle.std.proofs.Common.{◌≡◌, ◌+◌, ◌-◌, ◌*◌}
use Rattle.fram_state.specs.Sound.{are_shared}
use Rattle.fram_state.proofs.sound.are_shared.Given as goal

abbrev pub invariant-loop-i : goal.invariant-loop-i
invariant-loop-i l = are_shared l.variables (l.words - l.i) (l.address + 2 * l.i) ≡ are_shared l.variables l.words l.address
