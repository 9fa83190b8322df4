use Rattle.std.proofs.Common.{◌≡◌, ◌≤◌, ◌+◌, length, option_map, Some, vec_len}
use Rattle.image_text.specs.Reading.{empty}
use Rattle.asm_line.specs.Pieces.{lines_left, left_len}
use Rattle.asm_line.specs.Views.{located}
use Rattle.msp_asm.specs.Labels.{label_at}
use Rattle.msp_asm.specs.Assembled.{placed}
use Rattle.msp_asm.proofs.passes.words_of.Given as goal

abbrev pub invariant-loop-left : goal.invariant-loop-left
invariant-loop-left l = record {
  number : l.n + left_len (option_map located l.left) ≤ length (located l.text).text + 2;
  len : vec_len l.memory ≡ 24064;
  rest : placed (label_at l.labels) l.n l.address l.memory.items (lines_left (option_map located l.left))
      ≡ placed (label_at l.labels) 1 0x4400 (empty 24064) (lines_left (Some (located l.text)));
}

abbrev pub decreases-loop-left : goal.decreases-loop-left
decreases-loop-left l = left_len (option_map located l.left)
