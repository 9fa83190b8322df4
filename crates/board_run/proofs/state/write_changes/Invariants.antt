use Rattle.std.proofs.Common.{◌≡◌, ◌≤◌, drop}
use Rattle.alp_io.proofs.Interface.{Progress}
use Rattle.board_run.specs.History.{shared_numbers}
use Rattle.board_run.specs.State.{told_lines}
use Rattle.board_run.proofs.state.write_changes.Given as goal

abbrev pub invariant-loop-v : goal.invariant-loop-v
invariant-loop-v g l = record {
  same : l.report.sink.ghost_name ≡ l.fn.report.sink.ghost_name;
  count : g.S.Sink.faults l.fn.report.sink.now ≤ g.S.Sink.faults l.report.sink.now;
  lines : Progress (g.S.Sink.contents l.fn.report.sink.now) (g.S.Sink.contents l.report.sink.now)
      (told_lines l.shadow.words l.board.fram (shared_numbers (drop l.v-index l.map.variables)))
      (told_lines l.shadow.words l.board.fram (shared_numbers l.map.variables));
}
