-- Reports are not empty, and what a buffer took of one is what the output has in the end.
use Rattle.std.proofs.Common.{◌≡◌, ℕ, zero, suc, ◌+◌, ◌<◌, List, ◌++◌, length, length-append, arith, Option, Some, None, Result, Ok, Err, IfOk, sym, subst}
use Rattle.command_texts.specs.alp_io.declared.report.Reason.{Reason}
use Rattle.command_texts.specs.alp_io.declared.sink.Failed.{Failed}
use Rattle.command_texts.specs.alp_io.Report.{end_line, illegal_line, bus_line}
use Rattle.command_texts.specs.alp_io.Sink.{Writes}
use Rattle.buffered_sink.specs.Front.{Settles}
use Rattle.command_texts.specs.energy_trace.TraceValue.{TraceValue}
use Rattle.fram_board.specs.msp_step.declared.machine.Stop.TheVariants as stop
use Rattle.fram_board.specs.Board.{BoardValue}
use Rattle.fram_board.specs.Run.{End, Charges, Stopped, RunOutcome}
use Rattle.board_run.specs.History.{History, bound_lines}
use Rattle.board_run.specs.Events.{event_counts}
use Rattle.board_run.specs.Report.{events_lines, last_line, after_all, lines_from}
use Rattle.source_values.specs.Runs.{CheckedProgram, Completion, completion_of, without_answers, attempt_of}
use Rattle.command_texts.specs.source_report.MeanReport.{report_from, if_whole, mean_report}
use Rattle.plain_commands.specs.declared.run.RunEnding.{RunEnding}
use Rattle.command_texts.specs.command_answers.Ending.{Ending}
use Rattle.plain_commands.specs.Ends.{ending_of, WritesRun}
use Rattle.plain_commands.specs.RunReport.{IsReportFrom}

-- ---- the lines at the end

end_nonempty : (reason : Reason) (t accepted repeats : ℕ) → 0 < length (end_line reason t accepted repeats)
unfolding end_line
end_nonempty reason t accepted repeats = omega arith

illegal_nonempty : (pc word : ℕ) → 0 < length (illegal_line pc word)
unfolding illegal_line
illegal_nonempty pc word = omega arith

bus_nonempty : (pc address : ℕ) → 0 < length (bus_line pc address)
unfolding bus_line
bus_nonempty pc address = omega arith

behind_nonempty : (front rest : List ℕ) → 0 < length rest → 0 < length (front ++ rest)
behind_nonempty front rest some = omega (arith, length-append front rest)

-- ---- the report of a source

whole_nonempty : (c : Option Completion) (short : List ℕ) (whole : Completion → List ℕ) → 0 < length short → ((d : Completion) → 0 < length (whole d))
    → 0 < length (if_whole c short whole)
whole_nonempty None short whole some all = some
whole_nonempty (Some d) short whole some all = all d

mean_nonempty : (n : ℕ) (text : List ℕ) (program : CheckedProgram) (total k accepted task : ℕ) (shared : List (List ℕ)) (readings : List ℕ)
    → 0 < length (report_from n text program total k accepted task shared readings)
unfolding report_from
mean_nonempty zero text program total k accepted task shared readings = end_nonempty _ k accepted 0
mean_nonempty (suc n) text program total k accepted task shared readings =
    whole_nonempty (completion_of (attempt_of program task shared (without_answers readings))) _ _ (end_nonempty _ k accepted 0)
    (λ c. behind_nonempty _ _ (mean_nonempty n text program total (k + 1) (accepted + length c.emitted) c.next c.shared c.left))

-- the report of a source that a buffer took, as the output has it in the end
pub mean_settles : {T E : Type 0} (text : List ℕ) (program : CheckedProgram) (readings : List ℕ) (first taken held : Option (List ℕ))
    (written result : Result T E)
    → Settles first taken held written result → Writes first taken written (mean_report 10000 text program readings)
    → Writes first held result (mean_report 10000 text program readings)
mean_settles text program readings first taken held written result settles whole = settles _ (mean_nonempty 10000 text program _ 0 0 _ _ readings) whole

-- ---- the report of a run

last_nonempty : (h : History) (end : End) (b : BoardValue) → 0 < length (last_line h end b)
last_nonempty h Charges b = end_nonempty _ _ _ _
last_nonempty h (Stopped stop.Off) b = end_nonempty _ _ _ _
last_nonempty h (Stopped stop.NoReading) b = end_nonempty _ _ _ _
last_nonempty h (Stopped (stop.Illegal pc word)) b = illegal_nonempty pc word
last_nonempty h (Stopped (stop.Bus pc address)) b = bus_nonempty pc address

run_nonempty : (b : BoardValue) (h : History) (trace : TraceValue) (ending : Ending) (output : List ℕ) → IsReportFrom b h trace ending output
    → 0 < length output
run_nonempty b h trace ending output report =
    let r : RunOutcome = report.outcome in
    let last = behind_nonempty (events_lines trace.events (event_counts h.map r)) _ (last_nonempty (after_all h r.moments) r.ending r.board) in
    let P : List ℕ → Type 0 = λ t. 0 < length t in
    subst P (sym report.lines) (behind_nonempty (bound_lines h.map) _ (behind_nonempty (lines_from h r.moments) _ last))

-- the report of a run that a buffer took, as the output has it in the end
pub run_settles : (b : BoardValue) (h : History) (trace : TraceValue) (first taken held : Option (List ℕ)) (written result : Result RunEnding Failed)
    → Settles first taken held written result → IfOk result (λ x. written ≡ Ok x)
    → WritesRun b h trace first taken written → WritesRun b h trace first held result
run_settles b h trace first taken held (Ok e) (Ok x) settles same (output, is, whole) =
    let ends : e ≡ x = cc in
    let held = settles output (run_nonempty b h trace _ output is) (record { whole = whole; part = tt }) in
    (output, subst (λ y. IsReportFrom b h trace (ending_of y) output) ends is, held.whole)
run_settles b h trace first taken held (Ok e) (Err f) settles same (output, is, whole) =
    let held = settles output (run_nonempty b h trace _ output is) (record { whole = whole; part = tt }) in
    (ending_of e, output, is, held.part)
run_settles b h trace first taken held (Err f) (Ok x) settles same run = absurd (cc)
run_settles b h trace first taken held (Err f) (Err other) settles same (ending, output, is, part) =
    let held = settles output (run_nonempty b h trace ending output is) (record { whole = tt; part = part }) in
    (ending, output, is, held.part)
