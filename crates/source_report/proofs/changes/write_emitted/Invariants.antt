use Rattle.std.proofs.Common.{◌≡◌, ◌≤◌, drop}
use Rattle.alp_io.proofs.Interface.{Progress}
use Rattle.source_report.specs.SourceReport.{emitted_lines}
use Rattle.source_report.proofs.changes.write_emitted.Given as goal

abbrev pub invariant-loop-w : goal.invariant-loop-w
invariant-loop-w g l = record {
  same_sink : l.report.sink.ghost_name ≡ l.fn.report.sink.ghost_name;
  bytes : Progress (g.S.Sink.contents l.fn.report.sink.now) (g.S.Sink.contents l.report.sink.now) (emitted_lines (drop l.w-index l.words))
      (emitted_lines l.words);
  count : g.S.Sink.faults l.fn.report.sink.now ≤ g.S.Sink.faults l.report.sink.now;
}
