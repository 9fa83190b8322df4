-- What `mean` prints is a report that its source could have told; and what an audit says of such a report.
use Rattle.std.proofs.Common.{◌≡◌, ◌≤◌, ◌*◌, ◌+◌, ◌∙◌, ℕ, List, [], ◌∷◌, length, map, sum_by, All, arith, refl, sym, ap, subst, inl, Ok, Some}
use Rattle.std.proofs.lemmas.List.Sums.{sum_by-cons}
use Rattle.command_texts.specs.alp_io.declared.report.Reason.{Reason}
use Rattle.command_texts.specs.alp_io.declared.report.Reason.TheVariants as reason
use Rattle.command_texts.specs.energy_trace.TraceValue.{TraceValue}
use Rattle.command_texts.specs.energy_trace.Reading.{trace_of}
use Rattle.fram_board.specs.Run.{Charges}
use Rattle.command_texts.specs.cost_bound.declared.allowance.Allow.{Allow}
use Rattle.source_values.specs.Statements.{Outcome}
use Rattle.source_values.specs.Runs.{CheckedProgram, State, Transition, EmitsFit, first_state, state_after, source_run}
use Rattle.command_texts.specs.source_meaning.Laws.{AcceptedTextsRun}
use Rattle.command_texts.specs.source_report.SourceReport.{Committed, IsConsecutive, IsEnding, given_of}
use Rattle.command_texts.specs.source_report.Apart.{AreApart}
use Rattle.command_texts.proofs.source_runs.Interface.{made}
use Rattle.report_audit.specs.declared.verdict.Verdict.{Verdict}
use Rattle.report_audit.specs.declared.verdict.Verdict.TheVariants.{Yes, No}
use Rattle.report_audit.specs.Good.{IsGoodReport, IsVerdict}
use Rattle.report_audit.proofs.Interface.{run_on}
use Rattle.plain_commands.specs.Audited.{MeanReportsAreGood, MeanReportsAreAnsweredYes}
use Rattle.command_texts.specs.command_answers.Ending.{Ending, well}
use Rattle.plain_commands.specs.Audit.{Audits}
use Rattle.plain_commands.specs.Verdicts.{verdict_line, verdict_ending}

inside : (from end : ℕ) (spans : List Committed) → IsConsecutive from end spans → from ≤ end
inside from end [] h = h
inside from end (span ∷ spans) h = let a = h.1 in let b = inside span.to end spans h.2 in omega (arith, a, b)

-- consecutive spans are apart
apart : (from end : ℕ) (spans : List Committed) → IsConsecutive from end spans → AreApart from end spans
apart from end [] h = tt
apart from end (span ∷ spans) h =
    let begins = h.0 in
    let onward = h.1 in
    (omega (arith, begins), omega (arith, begins, onward), inside span.to end spans h.2, apart span.to end spans h.2)

-- so many transitions emit at most 256 words each
emitted : (program : CheckedProgram) → All (EmitsFit program) program.tasks → (s : State) (readings : List ℕ) (spans : List Committed) (ts : List Transition)
    → source_run program s (map (given_of readings) spans) ≡ Some ts → sum_by (λ t. length t.emitted) ts ≤ 256 * length spans
emitted program fit s readings [] ts run =
    let none : [] ≡ ts = cc run in
    let sum : sum_by (λ t. length t.emitted) ts ≡ 0 = ap (sum_by (λ t. length t.emitted)) (sym none) in
    omega (arith, sum)
emitted program fit s readings (span ∷ spans) ts run =
    let r = run_on program s (given_of readings span) (map (given_of readings) spans) ts run in
    let one = (made program fit s (given_of readings span) r.one r.made).few in
    let more = emitted program fit (state_after s r.one) readings spans r.others r.run in
    let sum : sum_by (λ t. length t.emitted) ts ≡ length r.one.emitted + sum_by (λ t. length t.emitted) r.others
    = ap (sum_by (λ t. length t.emitted)) r.are ∙ sum_by-cons (λ t. length t.emitted) r.one r.others in
    omega (arith, one, more, sum)

few_made : (why : Reason) (made : ℕ) (next : Outcome) → IsEnding why 10000 made next → made ≤ 10000
few_made reason.Limit made next e = omega (arith, e)
few_made reason.Readings made next e = let less = e.0 in omega (arith, less)
few_made reason.Charges made next e = absurd e
few_made reason.Off made next e = absurd e

ends_not_off : (why : Reason) (made : ℕ) (next : Outcome) → IsEnding why 10000 made next → why ≡ reason.Off → ⊥
ends_not_off reason.Limit made next e off = cc off
ends_not_off reason.Readings made next e off = cc off
ends_not_off reason.Charges made next e off = cc off
ends_not_off reason.Off made next e off = e

pub mean_reports_are_good : AcceptedTextsRun → MeanReportsAreGood
mean_reports_are_good law source trace output m =
    let runs = law source m.program m.source_said.allow m.source_said.accepted in
    let few = few_made m.report.reason (length m.report.spans) _ m.report.ending in
    let words = emitted m.program runs.emits_fit (first_state m.program) m.value.readings m.report.spans m.report.transitions m.report.run in (
      length m.report.spans,
      record {
        head = [];
        spans = m.report.spans;
        transitions = m.report.transitions;
        reason = m.report.reason;
        accepted = sum_by (λ t. length t.emitted) m.report.transitions;
        repeats = 0;
        bounded = inl refl;
        apart = apart 0 (length m.value.readings) m.report.spans m.report.consecutive;
        run = m.report.run;
        count = refl;
        on_board = ends_not_off m.report.reason (length m.report.spans) _ m.report.ending;
        words = omega arith;
        few_accepted = omega (arith, few, words);
        few_repeats = omega arith;
        lines = m.report.lines;
      },
    )

-- ---- what an audit says of them

-- a good report is answered yes
answered : (source trace output : List ℕ) (p : CheckedProgram) (w : Allow) (readings : List ℕ) (n : ℕ) → IsGoodReport source p w.cycles readings output n
    → (v : Verdict) (ending : Ending) (line : List ℕ) → IsVerdict source p w.cycles readings output v → ending ≡ verdict_ending v → line ≡ verdict_line v
    → (k : ℕ) × (ending ≡ well) × (line ≡ verdict_line (Yes k))
answered source trace output p w readings n good (Yes k) ending line says ends told = (k, ends, told)
answered source trace output p w readings n good (No l) ending line says ends told = absurd (says.not_good n good)

-- whatever program, price and trace it finds, they are those of the report
pub of_same : (source trace output : List ℕ) (p : CheckedProgram) (w : Allow) (t : TraceValue) (n : ℕ) → IsGoodReport source p w.cycles t.readings output n
    → trace_of trace ≡ Ok t → (ending : Ending) (line : List ℕ) (a : Audits source output trace ending line) → (p ≡ a.program) × (w ≡ a.allow)
    → (k : ℕ) × (ending ≡ well) × (line ≡ verdict_line (Yes k))
of_same source trace output p w t n good said ending line a same =
    let values : Ok t ≡ Ok a.value = sym said ∙ a.trace_said in
    let value : t ≡ a.value = cc values in
    let P : CheckedProgram → Type 0 = λ x. IsGoodReport source x w.cycles t.readings output n in
    let Q : Allow → Type 0 = λ x. IsGoodReport source a.program x.cycles t.readings output n in
    let R : TraceValue → Type 0 = λ x. IsGoodReport source a.program a.allow.cycles x.readings output n in
    answered source trace output a.program a.allow a.value.readings n (subst R value (subst Q same.1 (subst P same.0 good)))
    a.verdict ending line a.says a.ends a.line

pub mean_reports_are_answered_yes : AcceptedTextsRun → MeanReportsAreAnsweredYes
mean_reports_are_answered_yes law source trace output m ending line a =
    let good = mean_reports_are_good law source trace output m in
    of_same source trace output m.program m.source_said.allow m.value good.0 good.1 m.trace_said ending line a
    (a.only m.program m.source_said.allow m.source_said.accepted)
