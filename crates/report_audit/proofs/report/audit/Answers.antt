use Rattle.std.proofs.Common.{sym, subst}
use Rattle.report_audit.specs.Good.{IsFirstFault}
use Rattle.report_audit.specs.Stops.{StopsBy}
use Rattle.report_audit.proofs.FirstLines.{stops_on_line}
use Rattle.report_audit.proofs.report.audit.Goals as goal

pub read_report-requires-clause-names : goal.read_report-requires-clause-names
read_report-requires-clause-names c = c.names_are_names.ensures _ _ c.requires.accepted.checks

pub line_number-requires-clause-within : goal.line_number-requires-clause-within
line_number-requires-clause-within c =
    let stop = subst (StopsBy _) c.in-Err-At.field-0-is c.in-Err-At.ensures.stop in stop.inside

pub returns-in-Err-At-clause-verdict : goal.returns-in-Err-At-clause-verdict
returns-in-Err-At-clause-verdict c =
    let stop = subst (StopsBy _) c.in-Err-At.field-0-is c.in-Err-At.ensures.stop in
    rw c.readings.ensures.value at (subst (IsFirstFault _ _ _ _ _) (sym c.line_number.ensures) (stops_on_line _ _ stop))
