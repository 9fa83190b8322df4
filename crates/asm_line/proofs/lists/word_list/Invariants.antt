use Rattle.std.proofs.Common.{option_map}
use Rattle.asm_line.specs.Views.{located}
use Rattle.asm_line.specs.Pieces.{left_len}
use Rattle.asm_line.proofs.Splits.{ListLeft}
use Rattle.asm_line.proofs.lists.word_list.Given as goal

abbrev pub invariant-loop-left : goal.invariant-loop-left
invariant-loop-left l = ListLeft l.count (option_map located l.left) (located l.list)

abbrev pub decreases-loop-left : goal.decreases-loop-left
decreases-loop-left l = left_len (option_map located l.left)
