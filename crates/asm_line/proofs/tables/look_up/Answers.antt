use Rattle.std.proofs.Common.{rules, ◌∙◌, true, false, sym}
use Rattle.asm_line.proofs.Rows.{next_row}
use Rattle.asm_line.proofs.tables.look_up.Goals as goal

pub returns-then-eq_ignore_ascii_case : goal.returns-then-eq_ignore_ascii_case
returns-then-eq_ignore_ascii_case g c =
    sym (next_row c.args.table.now c.loop-known.known-index c.loop-known-item.result c.args.name.now true c.loop-known-test.true
    c.loop-known-item.is (search rules))
    ∙ c.loop-known.invariant

pub loop-known-preserved : goal.loop-known-preserved
loop-known-preserved g c =
    sym (next_row c.args.table.now c.loop-known.known-index c.loop-known-item.result c.args.name.now false c.loop-known-test.true
    c.loop-known-item.is (search rules))
    ∙ c.loop-known.invariant
