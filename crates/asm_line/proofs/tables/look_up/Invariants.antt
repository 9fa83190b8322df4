use Rattle.std.proofs.Common.{◌≡◌, map, drop}
use Rattle.asm_line.specs.Values.{look_up}
use Rattle.asm_line.specs.TableViews.{row_of}
use Rattle.asm_line.proofs.tables.look_up.Given as goal

abbrev pub invariant-loop-known : goal.invariant-loop-known
invariant-loop-known g l = look_up (map row_of (drop l.known-index l.table)) l.name ≡ look_up (map row_of l.table) l.name
