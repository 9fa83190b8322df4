use Rattle.std.proofs.Common.{◌-◌}
use Rattle.image_text.specs.address_space.Limits.{fram_words}
use Rattle.board_run.proofs.Marks.{Followed}
use Rattle.board_run.proofs.shadow.Shadow.follow_marked.Given as goal

abbrev pub invariant-loop-place : goal.invariant-loop-place
invariant-loop-place l = Followed l.self l.board.fram l.place

abbrev pub decreases-loop-place : goal.decreases-loop-place
decreases-loop-place l = fram_words - l.place
