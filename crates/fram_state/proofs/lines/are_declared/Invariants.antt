use Rattle.std.proofs.Common.{◌≡◌, take, map}
use Rattle.fram_state.specs.Suits.{line_of, declared_line}
use Rattle.fram_state.proofs.lines.are_declared.Given as goal

abbrev pub invariant-loop-i : goal.invariant-loop-i
invariant-loop-i l = take l.i (map line_of l.variables) ≡ take l.i (map (declared_line l.text) l.shared)
