use Rattle.std.proofs.Common.{◌<◌, ◌-◌, length}
use Rattle.source_report.specs.task_ast.View.{program_of}
use Rattle.source_values.specs.Running.{IsShaped}
use Rattle.report_audit.specs.Fronts.{inputs_of, IsFront}
use Rattle.report_audit.proofs.report.read_report.Given as goal

abbrev pub invariant-loop-line : goal.invariant-loop-line
invariant-loop-line l = record {
  front : IsFront (inputs_of l.source l.readings l.report) l.front l.run.task l.run.shared;
  task : l.run.task < length (program_of l.source.checked.source).tasks;
  shaped : IsShaped (program_of l.source.checked.source) l.run.shared;
}

abbrev pub decreases-loop-line : goal.decreases-loop-line
decreases-loop-line l = length l.report - l.front.at
