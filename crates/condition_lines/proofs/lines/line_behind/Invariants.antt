use Rattle.std.proofs.Common.{◌≡◌, ◌≤◌}
use Rattle.task_lex.specs.Faults.{line_of}
use Rattle.condition_lines.proofs.lines.line_behind.Given as goal

abbrev pub invariant-loop-i : goal.invariant-loop-i
invariant-loop-i l = record { counted : l.line ≡ line_of l.source l.i; low : l.i ≤ l.to }
