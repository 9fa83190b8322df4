-- The report of a run.
use Rattle.std.specs.Prelude.{◌≡◌, ℕ, List, [], ◌∷◌, ◌++◌, length, take, Result, Ok, Err, Option, ◌<◌, ◌≤◌}
use Rattle.std.specs.Io.KnownBytes.{Appends}
use Rattle.alp_io.specs.Count.{Rose}
use Rattle.alp_io.specs.Sink.{AppendsProperPrefix}
use Rattle.alp_io.specs.Report.{illegal_line, bus_line, end_line, events_line}
use Rattle.alp_io.specs.declared.report.Reason.TheVariants as reason
use Rattle.msp_step.specs.declared.machine.Stop.TheVariants as stop
use Rattle.fram_board.specs.Board.{BoardValue}
use Rattle.fram_board.specs.Run.{Moment, End, Charges, Stopped, RunOutcome, BoardCharge, Run}
use Rattle.board_run.specs.declared.trace_run.RunEnd.{RunEnd}
use Rattle.board_run.specs.declared.trace_run.RunEnd.TheVariants as run_end
use Rattle.board_run.specs.declared.trace_run.RunFault.{RunFault}
use Rattle.board_run.specs.declared.trace_run.RunFault.TheVariants as fault
use Rattle.energy_trace.specs.TraceValue.{Event}
use Rattle.board_run.specs.Events.{EventCounts, event_counts}
use Rattle.board_run.specs.History.{History, bound_lines, moment_lines, noted}

-- the lines of moments behind a history
abbrev pub lines_from : History → List Moment → List ℕ
lines_from h [] = []
lines_from h (m ∷ ms) = moment_lines h m ++ lines_from (noted h m) ms

-- the history behind moments
abbrev pub after_all : History → List Moment → History
after_all h [] = h
after_all h (m ∷ ms) = after_all (noted h m) ms

-- the last line, which says how a run ended
abbrev pub last_line : History → End → BoardValue → List ℕ
last_line h Charges b = end_line reason.Charges h.completed b.receiver.accepted b.receiver.repeats
last_line h (Stopped stop.Off) b = end_line reason.Off h.completed b.receiver.accepted b.receiver.repeats
last_line h (Stopped stop.NoReading) b = end_line reason.Readings h.completed b.receiver.accepted b.receiver.repeats
last_line h (Stopped (stop.Illegal pc word)) b = illegal_line pc word
last_line h (Stopped (stop.Bus pc address)) b = bus_line pc address

-- the line of what became of these events, if there were any
abbrev pub events_lines : List Event → EventCounts → List ℕ
events_lines [] c = []
events_lines (e ∷ es) c = events_line c.arisen c.accepted c.lost

-- the last lines: what became of these events, then how the run ended
abbrev pub last_lines : History → List Event → RunOutcome → List ℕ
last_lines h events r = events_lines events (event_counts h.map r) ++ last_line (after_all h r.moments) r.ending r.board

-- the report of a run under these events but for the bound: the lines of its moments, then the last lines
abbrev pub rest_of : History → List Event → RunOutcome → List ℕ
rest_of h events r = lines_from h r.moments ++ last_lines h events r

-- the report of a run under these events, which are those of its trace: with a map its bound first
abbrev pub report_of : History → List Event → RunOutcome → List ℕ
report_of h events r = bound_lines h.map ++ rest_of h events r

-- what is answered of the end of a run
abbrev pub answer_of : End → Result RunEnd RunFault
answer_of Charges = Ok run_end.Charges
answer_of (Stopped stop.Off) = Ok run_end.Off
answer_of (Stopped stop.NoReading) = Ok run_end.Readings
answer_of (Stopped (stop.Illegal pc word)) = Err (fault.Illegal pc word)
answer_of (Stopped (stop.Bus pc address)) = Err (fault.Bus pc address)

-- a text of a run is written whole, and the answer, the board and the history are those at its end
pub record IsWhole (h : History) (r : RunOutcome) (text : List ℕ) (old new : Option (List ℕ)) (result : Result RunEnd RunFault) (after : BoardValue)
    (now : History) : Type 0 where
  pub answer : result ≡ answer_of r.ending
  pub board : after ≡ r.board
  pub history : now ≡ after_all h r.moments
  pub written : Appends old new text

-- the known bytes grow by the first text, and by a proper prefix of the next
pub record BreaksOff (old new : Option (List ℕ)) (text next : List ℕ) : Type 0 where
  pub count : ℕ
  pub proper : count < length next
  pub held : Appends old new (text ++ take count next)

-- Behind a text, writing broke off in the lines of one of these moments: those of all moments before it are written whole.
-- What the moment tells of was done, and the board stands right behind it.
pub record IsCutInMoment (h : History) (text : List ℕ) (ms : List Moment) (old new : Option (List ℕ)) (after : BoardValue) : Type 0 where
  pub before : List Moment
  pub moment : Moment
  pub later : List Moment
  pub split : ms ≡ before ++ moment ∷ later
  pub board : after ≡ moment.after
  pub written : BreaksOff old new (text ++ lines_from h before) (moment_lines (after_all h before) moment)

-- where writing broke off in the report of a run that begins with a text, and the board that stands then
pub data IsCutAt (h : History) (text : List ℕ) (events : List Event) (b : BoardValue) (r : RunOutcome) (old new : Option (List ℕ)) (after : BoardValue) : Type 0
  where
    -- in the text: nothing was done, and the board is as it was
    InText : after ≡ b → AppendsProperPrefix old new text → IsCutAt h text events b r old new after
    -- in the lines of a moment
    InMoment : IsCutInMoment h text r.moments old new after → IsCutAt h text events b r old new after
    -- in the last lines: the board is the one at the run's end
    InLastLines : after ≡ r.board → BreaksOff old new (text ++ lines_from h r.moments) (last_lines h events r)
        → IsCutAt h text events b r old new after

-- the report of a run under these events wasn't written whole: a proper prefix of it is, up to this place
pub record IsCut (h : History) (text : List ℕ) (events : List Event) (b : BoardValue) (r : RunOutcome) (old new : Option (List ℕ)) (after : BoardValue) : Type 0
  where
    pub written : AppendsProperPrefix old new (text ++ rest_of h events r)
    pub place : IsCutAt h text events b r old new after

-- what is answered of the run of a board under charges and events, of which a text and then the report but for the bound are written
abbrev pub IsTold : List ℕ → History → List BoardCharge → List Event → BoardValue → Option (List ℕ) → Option (List ℕ) → Result RunEnd RunFault → BoardValue
    → History → Type 0
IsTold text h cs events b old new (Ok end) after now = (r : RunOutcome) × Run cs b r × IsWhole h r (text ++ rest_of h events r) old new (Ok end) after now
IsTold text h cs events b old new (Err (fault.Illegal pc word)) after now = (r : RunOutcome) × Run cs b r
    × IsWhole h r (text ++ rest_of h events r) old new (Err (fault.Illegal pc word)) after now
IsTold text h cs events b old new (Err (fault.Bus pc address)) after now = (r : RunOutcome) × Run cs b r
    × IsWhole h r (text ++ rest_of h events r) old new (Err (fault.Bus pc address)) after now
IsTold text h cs events b old new (Err fault.Write) after now = (r : RunOutcome) × Run cs b r × IsCut h text events b r old new after

-- the same of the report
abbrev pub IsRunOf : History → List BoardCharge → List Event → BoardValue → Option (List ℕ) → Option (List ℕ) → Result RunEnd RunFault → BoardValue → History
    → Type 0
IsRunOf h = IsTold (bound_lines h.map) h

-- and of the report but for the bound
abbrev pub IsRestOf : History → List BoardCharge → List Event → BoardValue → Option (List ℕ) → Option (List ℕ) → Result RunEnd RunFault → BoardValue → History
    → Type 0
IsRestOf = IsTold []

-- these last lines, which tell how a run ended, are written, whole or not
abbrev pub IsEndOf : End → List ℕ → Option (List ℕ) → Option (List ℕ) → Result RunEnd RunFault → Type 0
IsEndOf end text old new (Ok e) = (Ok e ≡ answer_of end) × Appends old new text
IsEndOf end text old new (Err (fault.Illegal pc word)) = (Err (fault.Illegal pc word) ≡ answer_of end) × Appends old new text
IsEndOf end text old new (Err (fault.Bus pc address)) = (Err (fault.Bus pc address) ≡ answer_of end) × Appends old new text
IsEndOf end text old new (Err fault.Write) = AppendsProperPrefix old new text

-- the count of faults has not fallen, and rose where the report can't be written
pub record HasWriteCause (before now : ℕ) (result : Result RunEnd RunFault) : Type 0 where
  pub later : before ≤ now
  pub failed : result ≡ Err fault.Write → Rose before now
