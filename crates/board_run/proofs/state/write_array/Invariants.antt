use Rattle.std.proofs.Common.{◌≡◌, ◌≤◌, ◌-◌}
use Rattle.alp_io.proofs.Interface.{Progress}
use Rattle.board_run.specs.History.{array_words}
use Rattle.board_run.specs.State.{told_lines}
use Rattle.board_run.proofs.Changes.{words_left}
use Rattle.board_run.proofs.state.write_array.Given as goal

abbrev pub invariant-loop-i : goal.invariant-loop-i
invariant-loop-i g l = record {
  same : l.report.sink.ghost_name ≡ l.fn.report.sink.ghost_name;
  count : g.S.Sink.faults l.fn.report.sink.now ≤ g.S.Sink.faults l.report.sink.now;
  end : l.i ≤ l.length;
  lines : Progress (g.S.Sink.contents l.fn.report.sink.now) (g.S.Sink.contents l.report.sink.now)
      (told_lines l.shadow.words l.board.fram (words_left l.v.name l.v.address l.length l.i))
      (told_lines l.shadow.words l.board.fram (array_words l.v.name l.v.address 0 l.length));
}

abbrev pub decreases-loop-i : goal.decreases-loop-i
decreases-loop-i g l = l.length - l.i
