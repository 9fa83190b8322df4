use Rattle.std.proofs.Common.{◌≡◌, option_map}
use Rattle.asm_line.specs.Pieces.{parts, rest_parts, left_len}
use Rattle.asm_line.specs.Lines.{values_of}
use Rattle.asm_line.specs.Views.{located}
use Rattle.msp_asm.specs.Program.{any_out_of_range}
use Rattle.msp_asm.proofs.faults.any_out_of_range.Given as goal

abbrev pub invariant-loop-left : goal.invariant-loop-left
invariant-loop-left l = any_out_of_range (values_of (rest_parts 44 (option_map located l.left)))
    ≡ any_out_of_range (values_of (parts 44 (located l.words.list)))

abbrev pub decreases-loop-left : goal.decreases-loop-left
decreases-loop-left l = left_len (option_map located l.left)
