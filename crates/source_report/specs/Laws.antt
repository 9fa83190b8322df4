-- What holds of the definitions.
use Rattle.std.specs.Prelude.{ℕ, List}
use Rattle.source_values.specs.Runs.{CheckedProgram}
use Rattle.source_values.specs.Running.{IsRunnable}
use Rattle.source_report.specs.SourceReport.{IsMeanReport}
use Rattle.source_report.specs.MeanReport.{mean_report}

-- the report as it is written is that of a source run on consecutive spans of the readings, with its determined end
abbrev pub MeanReportIsDetermined : Type 0
MeanReportIsDetermined = (text : List ℕ) (program : CheckedProgram) (readings : List ℕ) → IsRunnable program
    → IsMeanReport text program readings (mean_report 10000 text program readings)
