use Rattle.source_report.proofs.Determined.{mean_report_lem}
use Rattle.source_report.proofs.laws.mean_report_is_determined.Goals as goal

pub returns : goal.returns
returns c = mean_report_lem
