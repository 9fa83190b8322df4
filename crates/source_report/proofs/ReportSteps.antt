-- How the report of `mean` goes on: at the limit, after a short attempt, and after a whole one.
use Rattle.std.proofs.Common.{◌≡◌, ◌<◌, ℕ, zero, suc, ◌+◌, ◌-◌, List, ◌++◌, length, arith, refl, ap, ◌∙◌, Some, None}
use Rattle.alp_io.specs.declared.report.Reason.TheVariants.{Readings, Limit}
use Rattle.alp_io.specs.Report.{end_line}
use Rattle.source_values.specs.Runs.{CheckedProgram, Completion, completion_of, without_answers, attempt_of}
use Rattle.source_report.specs.SourceReport.{transition_lines}
use Rattle.source_report.specs.MeanReport.{report_from, if_whole}

-- the lines of a whole attempt
abbrev pub attempt_lines : List ℕ → CheckedProgram → ℕ → ℕ → ℕ → List (List ℕ) → List ℕ → Completion → List ℕ
attempt_lines text program total k task shared readings c =
    transition_lines text program (k + 1) (record { from = total - length readings; to = total - length c.left })
    (record { from = task; next = c.next; before = shared; after = c.shared; emitted = c.emitted })

pub report_at_limit : (n : ℕ) (text : List ℕ) (program : CheckedProgram) (total k accepted task : ℕ) (shared : List (List ℕ)) (readings : List ℕ) → n ≡ 0
    → report_from n text program total k accepted task shared readings ≡ end_line Limit k accepted 0
unfolding report_from
report_at_limit zero text program total k accepted task shared readings e = refl
report_at_limit (suc n) text program total k accepted task shared readings e = absurd (omega arith)

pub report_short : (n : ℕ) (text : List ℕ) (program : CheckedProgram) (total k accepted task : ℕ) (shared : List (List ℕ)) (readings : List ℕ) → 0 < n
    → completion_of (attempt_of program task shared (without_answers readings)) ≡ None
    → report_from n text program total k accepted task shared readings ≡ end_line Readings k accepted 0
unfolding report_from
report_short zero text program total k accepted task shared readings h e = absurd (omega arith)
report_short (suc n) text program total k accepted task shared readings h e = ap (λ o. if_whole o (end_line Readings k accepted 0)
    (λ c. attempt_lines text program total k task shared readings c ++ report_from n text program total (k + 1) (accepted + length c.emitted) c.next c.shared
    c.left)) e

pub report_more : (n m : ℕ) (text : List ℕ) (program : CheckedProgram) (total k accepted task : ℕ) (shared : List (List ℕ)) (readings : List ℕ)
    (c : Completion) → n ≡ m + 1
    → completion_of (attempt_of program task shared (without_answers readings)) ≡ Some c
    → report_from n text program total k accepted task shared readings
    ≡ attempt_lines text program total k task shared readings c ++ report_from m text program total (k + 1) (accepted + length c.emitted) c.next c.shared c.left
unfolding report_from
report_more zero m text program total k accepted task shared readings c h e = absurd (omega arith)
report_more (suc n) m text program total k accepted task shared readings c h e =
    let same : n ≡ m = omega arith in
    ap (λ o. if_whole o (end_line Readings k accepted 0)
    (λ c. attempt_lines text program total k task shared readings c ++ report_from n text program total (k + 1) (accepted + length c.emitted) c.next c.shared
    c.left)) e
    ∙ ap (λ j. attempt_lines text program total k task shared readings c ++ report_from j text program total (k + 1) (accepted + length c.emitted) c.next
    c.shared c.left) same
