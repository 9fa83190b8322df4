-- Whatever a command makes of its texts has one ending.
use Rattle.std.proofs.Common.{◌≡◌, ◌∙◌, ℕ, List, refl, sym, ap, subst}
use Rattle.command_texts.specs.energy_trace.TraceValue.{TraceValue}
use Rattle.command_texts.specs.energy_trace.Reading.{trace_of}
use Rattle.command_texts.specs.image_text.Reading.{image_of}
use Rattle.fram_board.specs.Laws.{HasOneRun}
use Rattle.fram_board.specs.Board.{BoardValue}
use Rattle.board_run.specs.History.{History}
use Rattle.command_texts.specs.command_answers.Ending.{Ending}
use Rattle.plain_commands.specs.Verdicts.{verdict_ending}
use Rattle.command_texts.specs.cost_bound.declared.allowance.Allow.{Allow}
use Rattle.source_values.specs.Runs.{CheckedProgram}
use Rattle.report_audit.specs.declared.verdict.Verdict.{Verdict}
use Rattle.report_audit.specs.declared.verdict.Verdict.TheVariants.{Yes, No}
use Rattle.report_audit.specs.Good.{IsVerdict}
use Rattle.plain_commands.specs.RunReport.{IsReportFrom, IsRunReport, ending_of}
use Rattle.plain_commands.specs.Run.{Runs}
use Rattle.plain_commands.specs.Audit.{Audits}
use Rattle.command_texts.proofs.Interface.{same_value}

pub one_run : HasOneRun → (s : BoardValue) (h : History) (t : TraceValue) (e e' : Ending) (o o' : List ℕ)
    → IsReportFrom s h t e o → IsReportFrom s h t e' o' → e ≡ e'
one_run law s h t e e' o o' a b = a.ends ∙ ap (λ r. ending_of r.ending) (law _ _ a.outcome b.outcome a.run b.run) ∙ sym b.ends

pub run_ending : HasOneRun → (x y : List ℕ) (e e' : Ending) (o o' : List ℕ) → Runs x y e o → Runs x y e' o' → e ≡ e'
run_ending law x y e e' o o' a b =
    let image : b.value ≡ a.value = same_value (image_of x) b.value a.value b.image_said a.image_said in
    let trace : b.charges ≡ a.charges = same_value (trace_of y) b.charges a.charges b.trace_said a.trace_said in
    let report : IsRunReport a.value a.charges e' o' =
    subst (λ t. IsRunReport a.value t e' o') trace (subst (λ i. IsRunReport i b.charges e' o') image b.report) in
    one_run law _ _ a.charges e e' o o' a.report report

-- a report has verdicts of one kind
one_kind : (source : List ℕ) (p : CheckedProgram) (n : ℕ) (readings report : List ℕ) (v w : Verdict)
    → IsVerdict source p n readings report v → IsVerdict source p n readings report w → verdict_ending v ≡ verdict_ending w
one_kind source p n readings report (Yes t) (Yes u) a b = refl
one_kind source p n readings report (Yes t) (No line) a b = absurd (b.not_good t a)
one_kind source p n readings report (No line) (Yes t) a b = absurd (a.not_good t b)
one_kind source p n readings report (No line) (No other) a b = refl

pub audit_ending : (x y z : List ℕ) (e e' : Ending) (o o' : List ℕ) → Audits x y z e o → Audits x y z e' o' → e ≡ e'
audit_ending x y z e e' o o' a b =
    let same = a.only b.program b.allow b.accepted in
    let trace : b.value ≡ a.value = same_value (trace_of z) b.value a.value b.trace_said a.trace_said in
    let P : CheckedProgram → Type 0 = λ p. IsVerdict x p b.allow.cycles b.value.readings y b.verdict in
    let Q : Allow → Type 0 = λ w. IsVerdict x a.program w.cycles b.value.readings y b.verdict in
    let R : TraceValue → Type 0 = λ t. IsVerdict x a.program a.allow.cycles t.readings y b.verdict in
    let says = subst R trace (subst Q same.1 (subst P same.0 b.says)) in
    a.ends ∙ one_kind x a.program a.allow.cycles a.value.readings y a.verdict b.verdict a.says says ∙ sym b.ends
