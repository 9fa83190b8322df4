use Rattle.std.proofs.Common.{◌≡◌, ◌++◌, option_map}
use Rattle.asm_line.specs.Pieces.{parts, rest_parts, left_len}
use Rattle.asm_line.specs.Lines.{values_of}
use Rattle.asm_line.specs.Views.{located}
use Rattle.msp_asm.specs.Labels.{label_at}
use Rattle.msp_asm.specs.Program.{items}
use Rattle.msp_asm.proofs.words.push_items.Given as goal

abbrev pub invariant-loop-left : goal.invariant-loop-left
invariant-loop-left l = l.out.items ++ items (label_at l.labels) l.at (values_of (rest_parts 44 (option_map located l.left)))
    ≡ l.fn.out.items ++ items (label_at l.labels) l.address (values_of (parts 44 (located l.words.list)))

abbrev pub decreases-loop-left : goal.decreases-loop-left
decreases-loop-left l = left_len (option_map located l.left)
