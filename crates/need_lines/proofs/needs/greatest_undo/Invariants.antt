use Rattle.std.proofs.Common.{◌≡◌, drop, map}
use Rattle.need_lines.specs.Rows.{greatest_undo, row_of}
use Rattle.need_lines.proofs.needs.greatest_undo.Given as goal

abbrev pub invariant-loop-i : goal.invariant-loop-i
invariant-loop-i l = l.most ≡ greatest_undo (map row_of (drop l.i l.needs))
