-- What a run of a board says of its report.
use Rattle.std.proofs.Common.{◌≡◌, ℕ, List, Option, Result, Ok, Err, refl, subst}
use Rattle.command_texts.specs.alp_io.Sink.{AppendsProperPrefix}
use Rattle.command_texts.specs.energy_trace.TraceValue.{TraceValue}
use Rattle.fram_board.specs.msp_step.declared.machine.Stop.TheVariants as stop
use Rattle.fram_board.specs.Board.{BoardValue}
use Rattle.fram_board.specs.Run.{End, Charges, Stopped}
use Rattle.board_run.specs.Charges.{charges_of}
use Rattle.board_run.specs.History.{History}
use Rattle.board_run.specs.Report.{report_of, answer_of, IsRunOf}
use Rattle.board_run.specs.declared.trace_run.RunEnd.{RunEnd}
use Rattle.board_run.specs.declared.trace_run.RunFault.{RunFault}
use Rattle.board_run.specs.declared.trace_run.RunFault.TheVariants as fault
use Rattle.command_texts.specs.command_answers.Ending.{Ending, well, at_fault}
use Rattle.plain_commands.specs.declared.run.RunEnding.TheVariants.{Well, AtFault}
use Rattle.plain_commands.specs.Ends.{WritesRun}
use Rattle.plain_commands.specs.RunReport.{IsReportFrom, ending_of}

pub ends_well : (e : End) (x : RunEnd) → Ok x ≡ answer_of e → well ≡ ending_of e
ends_well Charges x is = refl
ends_well (Stopped stop.Off) x is = refl
ends_well (Stopped stop.NoReading) x is = refl
ends_well (Stopped (stop.Illegal pc word)) x is = cc
ends_well (Stopped (stop.Bus pc address)) x is = cc

pub ends_at_fault : (e : End) (x : RunFault) → Err x ≡ answer_of e → at_fault ≡ ending_of e
ends_at_fault Charges x is = cc
ends_at_fault (Stopped stop.Off) x is = cc
ends_at_fault (Stopped stop.NoReading) x is = cc
ends_at_fault (Stopped (stop.Illegal pc word)) x is = refl
ends_at_fault (Stopped (stop.Bus pc address)) x is = refl

-- what is written of a run, by what it answered
abbrev pub IsWrittenOf : BoardValue → History → TraceValue → Option (List ℕ) → Option (List ℕ) → Result RunEnd RunFault → Type 0
IsWrittenOf b h t old new (Ok e) = WritesRun b h t old new (Ok Well)
IsWrittenOf b h t old new (Err (fault.Illegal pc word)) = WritesRun b h t old new (Ok AtFault)
IsWrittenOf b h t old new (Err (fault.Bus pc address)) = WritesRun b h t old new (Ok AtFault)
IsWrittenOf b h t old new (Err fault.Write) =
    (ending : Ending) × (output : List ℕ) × IsReportFrom b h t ending output × AppendsProperPrefix old new output

pub is_written : (b : BoardValue) (h : History) (t : TraceValue) (old new : Option (List ℕ)) (result : Result RunEnd RunFault) (after : BoardValue)
    (now : History)
    → IsRunOf h (charges_of t.charges) t.events b old new result after now → IsWrittenOf b h t old new result
is_written b h t old new (Ok x) after now r =
    (report_of h t.events r.0, record { outcome = r.0; run = r.1; ends = ends_well r.0.ending x r.2.answer; lines = refl }, r.2.written)
is_written b h t old new (Err (fault.Illegal pc word)) after now r = (
  report_of h t.events r.0,
  record { outcome = r.0; run = r.1; ends = ends_at_fault r.0.ending (fault.Illegal pc word) r.2.answer; lines = refl },
  r.2.written,
)
is_written b h t old new (Err (fault.Bus pc address)) after now r = (
  report_of h t.events r.0,
  record { outcome = r.0; run = r.1; ends = ends_at_fault r.0.ending (fault.Bus pc address) r.2.answer; lines = refl },
  r.2.written,
)
is_written b h t old new (Err fault.Write) after now r =
    (ending_of r.0.ending, report_of h t.events r.0, record { outcome = r.0; run = r.1; ends = refl; lines = refl }, r.2.written)

-- the same of a fault that is known
pub is_written_at : (b : BoardValue) (h : History) (t : TraceValue) (old new : Option (List ℕ)) (x y : RunFault) (after : BoardValue) (now : History)
    → x ≡ y → IsRunOf h (charges_of t.charges) t.events b old new (Err x) after now → IsWrittenOf b h t old new (Err y)
is_written_at b h t old new x y after now same r =
    is_written b h t old new (Err y) after now (subst (λ z. IsRunOf h (charges_of t.charges) t.events b old new (Err z) after now) same r)

-- the report of a run is that of the same board's, told from the same history
pub told_from : (b c : BoardValue) (h k : History) (t : TraceValue) → b ≡ c → h ≡ k → (ending : Ending) (output : List ℕ)
    → IsReportFrom b h t ending output → IsReportFrom c k t ending output
told_from b c h k t is_board is_known ending output r =
    subst (λ x. IsReportFrom c x t ending output) is_known (subst (λ x. IsReportFrom x h t ending output) is_board r)
