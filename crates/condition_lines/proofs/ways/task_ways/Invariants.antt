use Rattle.std.proofs.Common.{◌≡◌, ◌++◌, drop}
use Rattle.condition_lines.specs.Conditions.{lists_of}
use Rattle.condition_lines.specs.Ways.{task_ways}
use Rattle.condition_lines.proofs.ways.task_ways.Given as goal

abbrev pub invariant-loop-i : goal.invariant-loop-i
invariant-loop-i l =
    l.ways.items ++ task_ways l.held l.failed (drop l.i l.lines) (lists_of (drop l.i l.ifs)) ≡ task_ways l.held l.failed l.lines (lists_of l.ifs)
