use Rattle.std.proofs.Common.{◌≡◌, ◌≤◌, ◌+◌, length, option_map, Some}
use Rattle.asm_line.specs.Pieces.{lines_left, left_len}
use Rattle.asm_line.specs.Views.{located}
use Rattle.msp_asm.specs.Labels.{label_at}
use Rattle.msp_asm.specs.Assembled.{labels_of, no_labels}
use Rattle.msp_asm.proofs.passes.labels_of.Given as goal

abbrev pub invariant-loop-left : goal.invariant-loop-left
invariant-loop-left l = record {
  number : l.n + left_len (option_map located l.left) ≤ length (located l.text).text + 2;
  rest : labels_of (label_at l.labels) l.n l.address (lines_left (option_map located l.left))
      ≡ labels_of no_labels 1 0x4400 (lines_left (Some (located l.text)));
}

abbrev pub decreases-loop-left : goal.decreases-loop-left
decreases-loop-left l = left_len (option_map located l.left)
