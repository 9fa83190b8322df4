use Rattle.std.proofs.Common.{◌≡◌, ◌++◌, drop, map}
use Rattle.text_parts.specs.Printed.{printed}
use Rattle.need_lines.specs.Lines.{way_fields}
use Rattle.need_lines.proofs.lines.push_ways.Given as goal

abbrev pub invariant-loop-way : goal.invariant-loop-way
invariant-loop-way l = l.out.items ++ printed (map way_fields (drop l.way-index l.ways)) ≡ l.fn.out.items ++ printed (map way_fields l.ways)
