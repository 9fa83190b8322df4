use Rattle.std.proofs.Common.{◌≡◌, ◌≤◌, drop, flat_map}
use Rattle.alp_io.specs.Report.{accepted_line}
use Rattle.alp_io.proofs.Interface.{Progress}
use Rattle.board_run.proofs.state.write_words.Given as goal

abbrev pub invariant-loop-w : goal.invariant-loop-w
invariant-loop-w g l = record {
  same : l.report.sink.ghost_name ≡ l.fn.report.sink.ghost_name;
  count : g.S.Sink.faults l.fn.report.sink.now ≤ g.S.Sink.faults l.report.sink.now;
  lines : Progress (g.S.Sink.contents l.fn.report.sink.now) (g.S.Sink.contents l.report.sink.now) (flat_map accepted_line (drop l.w-index l.words))
      (flat_map accepted_line l.words);
}
