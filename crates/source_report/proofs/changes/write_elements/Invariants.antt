use Rattle.std.proofs.Common.{◌≡◌, ◌≤◌, ◌-◌, [], drop, get_or}
use Rattle.alp_io.proofs.Interface.{Progress}
use Rattle.source_report.specs.SourceReport.{element_lines}
use Rattle.source_report.proofs.changes.write_elements.Given as goal

abbrev pub invariant-loop-i : goal.invariant-loop-i
invariant-loop-i g l = record {
  same_sink : l.report.sink.ghost_name ≡ l.fn.report.sink.ghost_name;
  bytes : Progress (g.S.Sink.contents l.fn.report.sink.now) (g.S.Sink.contents l.report.sink.now)
      (element_lines l.name l.i (drop l.i (get_or l.run.before l.v [])) (drop l.i (get_or l.run.shared l.v [])))
      (element_lines l.name 0 (get_or l.run.before l.v []) (get_or l.run.shared l.v []));
  bound : l.i ≤ l.n;
  count : g.S.Sink.faults l.fn.report.sink.now ≤ g.S.Sink.faults l.report.sink.now;
}

abbrev pub decreases-loop-i : goal.decreases-loop-i
decreases-loop-i g l = l.n - l.i
