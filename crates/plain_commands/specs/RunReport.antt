-- The report of a run on a trace.
use Rattle.std.specs.Prelude.{◌≡◌, ℕ, List}
use Rattle.command_texts.specs.energy_trace.TraceValue.{TraceValue}
use Rattle.command_texts.specs.image_text.ImageValue.{ImageValue}
use Rattle.fram_board.specs.msp_step.declared.machine.Stop.TheVariants as stop
use Rattle.fram_board.specs.Board.{BoardValue, fresh}
use Rattle.fram_board.specs.Run.{End, Charges, Stopped, RunOutcome, Run}
use Rattle.board_run.specs.Charges.{charges_of}
use Rattle.board_run.specs.History.{History, start_of}
use Rattle.board_run.specs.Report.{report_of}
use Rattle.command_texts.specs.command_answers.Ending.{Ending, well, at_fault}

-- a run ends at a machine fault where it met a word that is no instruction, or a bus fault
abbrev pub ending_of : End → Ending
ending_of Charges = well
ending_of (Stopped stop.Off) = well
ending_of (Stopped stop.NoReading) = well
ending_of (Stopped (stop.Illegal pc word)) = at_fault
ending_of (Stopped (stop.Bus pc address)) = at_fault

-- The report of the one run of a board under the trace's charges, told from what is known before it, and how that run ended.
pub record IsReportFrom (board : BoardValue) (known : History) (trace : TraceValue) (ending : Ending) (output : List ℕ) : Type 0 where
  pub outcome : RunOutcome
  pub run : Run (charges_of trace.charges) board outcome
  pub ends : ending ≡ ending_of outcome.ending
  pub lines : output ≡ report_of known trace.events outcome

-- the same of the image's fresh board, on the trace's readings and events
abbrev pub IsRunReport : ImageValue → TraceValue → Ending → List ℕ → Type 0
IsRunReport image trace = IsReportFrom (fresh image.words trace.readings trace.events) (start_of image) trace
