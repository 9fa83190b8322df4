use Rattle.std.proofs.Common.{◌≡◌, ◌+◌, drop}
use Rattle.image_text.specs.Sections.{shown_len}
use Rattle.image_text.proofs.print.shown_len.Given as goal

abbrev pub invariant-loop-i : goal.invariant-loop-i
invariant-loop-i l = l.i + shown_len (l.place + l.i) (drop l.i l.words) ≡ shown_len l.place l.words
