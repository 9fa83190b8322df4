use Rattle.std.proofs.Common.{◌≡◌, ◌≤◌, ◌<◌, ◌*◌, ◌-◌, length}
use Rattle.alp_io.proofs.Interface.{Progress}
use Rattle.task_ast.specs.View.{program_of}
use Rattle.source_values.specs.Running.{IsShaped}
use Rattle.source_report.specs.MeanReport.{report_from, mean_report}
use Rattle.source_report.proofs.report.write_mean_report.Given as goal

abbrev pub invariant-loop-k : goal.invariant-loop-k
invariant-loop-k g l = record {
  same_sink : l.report.sink.ghost_name ≡ l.fn.report.sink.ghost_name;
  bytes : Progress (g.S.Sink.contents l.fn.report.sink.now) (g.S.Sink.contents l.report.sink.now)
      (report_from (l.most - l.k) l.text (program_of l.source) (length l.readings) l.k l.accepted l.run.task l.run.shared l.left)
      (mean_report l.most l.text (program_of l.source) l.readings);
  count : g.S.Sink.faults l.fn.report.sink.now ≤ g.S.Sink.faults l.report.sink.now;
  left : length l.left ≤ length l.readings;
  words : l.accepted ≤ 256 * l.k;
  shaped : IsShaped (program_of l.source) l.run.shared;
  task : l.run.task < length (program_of l.source).tasks;
}
