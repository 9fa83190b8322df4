-- Laws that join a run's report and the history that is read off its effects.
use Rattle.std.specs.Prelude.{◌≡◌, ℕ, ◌≤◌, List, ◌++◌, length, flat_map, Some}
use Rattle.alp_io.specs.Report.{accepted_line, bound_line}
use Rattle.image_map.specs.MapValue.{MapValue}
use Rattle.image_map.specs.Kept.{IsMap}
use Rattle.fram_board.specs.declared.events.Heard.TheVariants as heard
use Rattle.fram_board.specs.Board.{BoardValue}
use Rattle.fram_board.specs.Saved.{TakesNextBehind}
use Rattle.fram_board.specs.Run.{BoardCharge, Moment, RunOutcome}
use Rattle.board_run.specs.History.{start_with}
use Rattle.board_run.specs.History as board
use Rattle.board_run.specs.Events.{event_counts}
use Rattle.board_run.specs.Report.{after_all, events_lines, lines_from, report_of, last_line}
use Rattle.machine_effects.specs.World.{World}
use Rattle.machine_effects.specs.Runs.{last_board}
use Rattle.crash_rules.specs.History.{History, first_history}
use Rattle.run_charges.specs.View.{outside_of}
use Rattle.run_charges.specs.Charges.{observed}
use Rattle.run_charges.specs.Laws.{IsProgramRun}
use Rattle.model_runs.specs.Events.{marks_of, IsInFront, TellsOf, counted, SaysTheSame, word_lines, dones_lines}

-- what a report's history and one by effects say stays the same over each front of a run, and the second tells of the board then
abbrev pub HistoriesStayTheSame : Type 0
HistoriesStayTheSame = (cs : List BoardCharge) (b : BoardValue) (r : RunOutcome) (ms rest : List Moment) → IsProgramRun cs b r
    → r.moments ≡ ms ++ rest
    → (m : MapValue) (x : World) (h : board.History) (k : History) → IsMap m → IsInFront m → SaysTheSame m x h k → TellsOf b k
    → SaysTheSame m x (after_all h ms) (observed (marks_of m) ms k) × TellsOf (last_board b ms) (observed (marks_of m) ms k)

-- a board from which a run begins, and the world then: no reading is taken yet, and nothing was read of EVENT
pub record StartsWith (b : BoardValue) (x : World) : Type 0 where
  pub fram : x.fram ≡ (outside_of b).fram
  pub accepted : TakesNextBehind x.accepted b.receiver
  pub taken : b.taken ≡ 0
  pub heard : b.line.heard ≡ heard.Nothing

-- the first histories say the same
abbrev pub FirstHistoriesAreTheSame : Type 0
FirstHistoriesAreTheSame = (b : BoardValue) (m : MapValue) (x : World) → IsMap m → IsInFront m → StartsWith b x
    → SaysTheSame m x (start_with b.fram (Some m)) (first_history (marks_of m) x) × TellsOf b (first_history (marks_of m) x)

-- the lines of each front of a run are those of its dones
abbrev pub LinesAreOfDones : Type 0
LinesAreOfDones = (cs : List BoardCharge) (b : BoardValue) (r : RunOutcome) (ms rest : List Moment) → IsProgramRun cs b r → r.moments ≡ ms ++ rest
    → (m : MapValue) (x : World) → IsMap m → IsInFront m → StartsWith b x
    → lines_from (start_with b.fram (Some m)) ms ≡ dones_lines m 0 x (observed (marks_of m) ms (first_history (marks_of m) x)).completed

-- the report of a run is the bound, the lines of its dones, what became of its events, and how it ended, with the number of its dones
abbrev pub ReportIsOfDones : Type 0
ReportIsOfDones = (cs : List BoardCharge) (b : BoardValue) (r : RunOutcome) → IsProgramRun cs b r
    → (m : MapValue) (x : World) → IsMap m → IsInFront m → StartsWith b x
    → let ds = (observed (marks_of m) r.moments (first_history (marks_of m) x)).completed in
    (h : board.History) → h.completed ≡ counted (length ds)
    → report_of (start_with b.fram (Some m)) b.line.coming r
    ≡ bound_line m.bound ++ (dones_lines m 0 x ds ++ (events_lines b.line.coming (event_counts (Some m) r) ++ last_line h r.ending r.board))

-- where at most 256 words are accepted, each has its line
abbrev pub FewWordsHaveLines : Type 0
FewWordsHaveLines = (ws : List ℕ) → length ws ≤ 256 → word_lines ws ≡ flat_map accepted_line ws
