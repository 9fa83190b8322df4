use Rattle.std.proofs.Common.{◌≡◌, ◌++◌, drop}
use Rattle.image_text.specs.Text.{tail_text}
use Rattle.image_text.proofs.print.push_tail.Given as goal

abbrev pub invariant-loop-w : goal.invariant-loop-w
invariant-loop-w l = l.out.items ++ tail_text (drop l.w-index l.words) ≡ l.fn.out.items ++ tail_text l.words
