-- What a call that writes the report of a run leaves.
use Rattle.std.specs.Prelude.{ℕ, List, Option, Result, Ok, Err}
use Rattle.std.specs.Io.KnownBytes.{Appends}
use Rattle.command_texts.specs.alp_io.Sink.{AppendsProperPrefix}
use Rattle.command_texts.specs.alp_io.declared.sink.Failed.{Failed}
use Rattle.command_texts.specs.energy_trace.TraceValue.{TraceValue}
use Rattle.fram_board.specs.Board.{BoardValue}
use Rattle.board_run.specs.History.{History}
use Rattle.plain_commands.specs.declared.run.RunEnding.{RunEnding}
use Rattle.plain_commands.specs.declared.run.RunEnding.TheVariants.{Well, AtFault}
use Rattle.command_texts.specs.command_answers.Ending.{Ending, well, at_fault}
use Rattle.plain_commands.specs.RunReport.{IsReportFrom}
use Rattle.command_texts.specs.alp_io.declared.report.Reason.{Reason}
use Rattle.command_texts.specs.alp_io.declared.report.Reason.TheVariants as reason
use Rattle.board_run.specs.declared.trace_run.RunEnd.{RunEnd}
use Rattle.board_run.specs.declared.trace_run.RunEnd.TheVariants.{Charges, Readings, Off}

-- the answer as a command's ending
abbrev pub ending_of : RunEnding → Ending
ending_of Well = well
ending_of AtFault = at_fault

-- the whole report of a board's run and its ending, or after a failure a proper prefix of the report
abbrev pub WritesRun : BoardValue → History → TraceValue → Option (List ℕ) → Option (List ℕ) → Result RunEnding Failed → Type 0
WritesRun board known trace old new (Ok e) =
    (output : List ℕ) × IsReportFrom board known trace (ending_of e) output × Appends old new output
WritesRun board known trace old new (Err f) =
    (ending : Ending) × (output : List ℕ) × IsReportFrom board known trace ending output × AppendsProperPrefix old new output

-- the word of the last line for what a run answers
abbrev pub reason_of : RunEnd → Reason
reason_of Charges = reason.Charges
reason_of Readings = reason.Readings
reason_of Off = reason.Off
