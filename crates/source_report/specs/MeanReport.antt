-- The report of `mean` as it is written, transition by transition.
use Rattle.std.specs.Prelude.{ℕ, zero, suc, ◌+◌, ◌-◌, List, ◌++◌, length, Option, Some, None}
use Rattle.alp_io.specs.declared.report.Reason.TheVariants.{Readings, Limit}
use Rattle.alp_io.specs.Report.{end_line}
use Rattle.source_values.specs.Runs.{CheckedProgram, Completion, completion_of, without_answers, attempt_of, initial_rows}
use Rattle.source_report.specs.SourceReport.{transition_lines}

-- goes on with a whole attempt, or ends after a short one
abbrev pub if_whole : Option Completion → List ℕ → (Completion → List ℕ) → List ℕ
if_whole None short whole = short
if_whole (Some c) short whole = whole c

-- what stands behind k transitions, of which `accepted` words came, where n more may be made from this task and these shared
-- words on and these of `total` readings are left
unfoldable pub report_from : ℕ → List ℕ → CheckedProgram → ℕ → ℕ → ℕ → ℕ → List (List ℕ) → List ℕ → List ℕ
report_from zero text program total k accepted task shared readings = end_line Limit k accepted 0
report_from (suc n) text program total k accepted task shared readings =
    if_whole (completion_of (attempt_of program task shared (without_answers readings))) (end_line Readings k accepted 0)
    (λ c. transition_lines text program (k + 1) (record { from = total - length readings; to = total - length c.left })
    (record { from = task; next = c.next; before = shared; after = c.shared; emitted = c.emitted })
    ++ report_from n text program total (k + 1) (accepted + length c.emitted) c.next c.shared c.left)

-- the report of at most so many transitions, from the first state on
abbrev pub mean_report : ℕ → List ℕ → CheckedProgram → List ℕ → List ℕ
mean_report most text program readings =
    report_from most text program (length readings) 0 0 program.entry.task (initial_rows program) readings
