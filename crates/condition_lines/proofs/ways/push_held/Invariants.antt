use Rattle.std.proofs.Common.{◌≡◌, ◌+◌, ◌++◌, drop}
use Rattle.condition_lines.specs.Ways.{held_ways}
use Rattle.condition_lines.proofs.ways.push_held.Given as goal

abbrev pub invariant-loop-i : goal.invariant-loop-i
invariant-loop-i l = l.ways.items ++ held_ways l.line l.held (l.i + 1) (drop l.i l.numbers) ≡ l.fn.ways.items ++ held_ways l.line l.held 1 l.numbers
