use Rattle.std.proofs.Common.{◌≡◌, take, map}
use Rattle.source_maps.specs.Maps.{shared_name}
use Rattle.fram_state.proofs.lines.are_privates.Given as goal

abbrev pub invariant-loop-i : goal.invariant-loop-i
invariant-loop-i l = take l.i l.names ≡ take l.i (map (shared_name l.text l.shared) l.numbers)
