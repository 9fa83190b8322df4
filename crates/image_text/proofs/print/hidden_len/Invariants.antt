use Rattle.std.proofs.Common.{◌≡◌, ◌+◌, drop}
use Rattle.image_text.specs.Sections.{hidden_len}
use Rattle.image_text.proofs.print.hidden_len.Given as goal

abbrev pub invariant-loop-i : goal.invariant-loop-i
invariant-loop-i l = l.i + hidden_len (l.place + l.i) (drop l.i l.words) ≡ hidden_len l.place l.words
