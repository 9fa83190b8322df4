use Rattle.std.proofs.Common.{◌≡◌, ◌≤◌, drop}
use Rattle.alp_io.proofs.Interface.{Progress}
use Rattle.source_report.specs.SourceReport.{change_lines}
use Rattle.source_report.proofs.changes.write_changes.Given as goal

abbrev pub invariant-loop-v : goal.invariant-loop-v
invariant-loop-v g l = record {
  same_sink : l.report.sink.ghost_name ≡ l.fn.report.sink.ghost_name;
  bytes : Progress (g.S.Sink.contents l.fn.report.sink.now) (g.S.Sink.contents l.report.sink.now)
      (change_lines l.text (drop l.v l.shared) (drop l.v l.run.before) (drop l.v l.run.shared))
      (change_lines l.text l.shared l.run.before l.run.shared);
  count : g.S.Sink.faults l.fn.report.sink.now ≤ g.S.Sink.faults l.report.sink.now;
}
