-- The reports that a source could have told of a trace's readings, and the line at which a text stops being one.
use Rattle.std.specs.Prelude.{◌≡◌, ◌≤◌, ◌<◌, ◌^◌, ℕ, zero, suc, ◌+◌, ◌==◌, ◌⊎◌, if◌then◌else◌, List, [], ◌∷◌, ◌++◌, length, map, sum_by, Some}
use Rattle.alp_io.specs.declared.report.Reason.{Reason}
use Rattle.alp_io.specs.declared.report.Reason.TheVariants.{Off}
use Rattle.alp_io.specs.Report.{bound_line, end_line}
use Rattle.source_values.specs.Runs.{CheckedProgram, Transition, first_state, source_run}
use Rattle.source_report.specs.SourceReport.{Committed, given_of, source_report}
use Rattle.source_report.specs.Apart.{AreApart}
use Rattle.source_meaning.specs.Events.{HasEvent}
use Rattle.report_audit.specs.declared.verdict.AuditFault.{AuditFault}
use Rattle.report_audit.specs.declared.verdict.AuditFault.TheVariants.{Events, Memory}
use Rattle.report_audit.specs.declared.verdict.Verdict.{Verdict}
use Rattle.report_audit.specs.declared.verdict.Verdict.TheVariants.{Yes, No}

-- A report that the source could have told, with t transitions: it may begin with the line of the bound. Then it has the lines of whole
-- tasks, one behind the other from the first state on, each of which takes exactly the readings of its span; the spans are in order and
-- apart. It ends with a line that has their number, at least as many accepted words as they emitted, and any number of repeats.
pub record IsGoodReport (source : List ℕ) (program : CheckedProgram) (bound : ℕ) (readings report : List ℕ) (t : ℕ) : Type 0 where
  pub head : List ℕ
  pub spans : List Committed
  pub transitions : List Transition
  pub reason : Reason
  pub accepted : ℕ
  pub repeats : ℕ
  pub bounded : (head ≡ []) ⊎ (head ≡ bound_line bound)
  pub apart : AreApart 0 (length readings) spans
  pub run : source_run program (first_state program) (map (given_of readings) spans) ≡ Some transitions
  pub count : length spans ≡ t
  pub on_board : reason ≡ Off → ⊥
  pub words : sum_by (λ x. length x.emitted) transitions ≤ accepted
  pub few_accepted : accepted < 2 ^ 64
  pub few_repeats : repeats < 2 ^ 64
  pub lines : report ≡ head ++ (source_report source program 1 spans transitions ++ end_line reason t accepted repeats)

-- how many line feeds a text has
abbrev pub line_feeds : List ℕ → ℕ
line_feeds [] = 0
line_feeds (b ∷ bs) = if b == 10 then suc (line_feeds bs) else line_feeds bs

-- a text up to and with its n-th line feed
abbrev pub first_lines : ℕ → List ℕ → List ℕ
first_lines zero text = []
first_lines (suc n) [] = []
first_lines (suc n) (b ∷ bs) = b ∷ (if b == 10 then first_lines n bs else first_lines (suc n) bs)

-- a text is the beginning of a good report, or the whole of one
pub record BeginsGood (source : List ℕ) (program : CheckedProgram) (bound : ℕ) (readings text : List ℕ) : Type 0 where
  pub rest : List ℕ
  pub t : ℕ
  pub good : IsGoodReport source program bound readings (text ++ rest) t

-- A text is no good report, and stops being one on this line, counted from 1: the lines before it begin a good report, and with it they
-- don't; or it has no more lines, or none that is ended.
pub record IsFirstFault (source : List ℕ) (program : CheckedProgram) (bound : ℕ) (readings report : List ℕ) (line : ℕ) : Type 0 where
  pub before : ℕ
  pub line_is : line ≡ before + 1
  pub counted : before ≤ line_feeds report
  pub begins : BeginsGood source program bound readings (first_lines before report)
  pub differs : before < line_feeds report → BeginsGood source program bound readings (first_lines line report) → ⊥
  pub not_good : (t : ℕ) → IsGoodReport source program bound readings report t → ⊥

-- what a verdict says
abbrev pub IsVerdict : List ℕ → CheckedProgram → ℕ → List ℕ → List ℕ → Verdict → Type 0
IsVerdict source program bound readings report (Yes t) = IsGoodReport source program bound readings report t
IsVerdict source program bound readings report (No line) = IsFirstFault source program bound readings report line

-- why there is no verdict: the first `next_event` of the source is on this line
abbrev pub IsUnaudited : List ℕ → AuditFault → Type 0
IsUnaudited source (Events line) = HasEvent source line
IsUnaudited source Memory = Unit {0}
