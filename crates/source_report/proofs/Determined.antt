-- The report that `mean` writes is that of a source run on consecutive spans of the readings, with its determined end.
use Rattle.std.proofs.Common.{◌≡◌, ◌≤◌, ◌<◌, ℕ, zero, suc, ◌+◌, ◌-◌, List, [], ◌∷◌, ◌++◌, length, take, drop, map, sum_by, arith, refl, ap, sym, ◌∙◌, subst}
use Rattle.std.proofs.Common.{Option, Some, append_assoc, zero-add, length-append, length-drop, drop-drop, slice_get, get_or, All, append-nil}
use Rattle.std.proofs.lemmas.List.Elements.{All-get_or}
use Rattle.std.proofs.lemmas.Option.{slice_get-get_or}
use Rattle.std.proofs.lemmas.List.Sums.{sum_by-cons}
use Rattle.std.proofs.Math.Seq.{take-append_seam, drop-append_seam}
use Rattle.alp_io.specs.declared.report.Reason.{Reason}
use Rattle.alp_io.specs.declared.report.Reason.TheVariants.{Readings, Limit}
use Rattle.alp_io.specs.Report.{end_line}
use Rattle.source_values.specs.Values.{◌>>?◌}
use Rattle.source_values.specs.Statements.{Attempt, Outcome, goes_on, to_task, returns, short, run_block, meanings}
use Rattle.source_values.specs.Runs.{CheckedTask, CheckedProgram, EndsWell, TransitionComes, without_answers, fresh_attempt, body_of, attempt_of, Completion}
use Rattle.source_values.specs.Runs.{completion_of}
use Rattle.source_values.specs.Running.{IsRunnable}
use Rattle.source_values.specs.Runs.{State, Transition, exactly, transition_of, source_run, state_after, state_behind, first_state}
use Rattle.source_values.proofs.Interface.{readings_left_over_lem}
use Rattle.source_report.specs.SourceReport.{Committed, transition_lines, source_report, readings_of, given_of, IsConsecutive, position_after, IsEnding}
use Rattle.source_report.specs.SourceReport.{IsMeanReport}
use Rattle.source_report.specs.MeanReport.{report_from, mean_report}
use Rattle.source_report.proofs.ReportSteps.{report_at_limit, report_short, report_more}

-- the readings that an attempt used are those of its span, and the rest is left
record SpanTakes (trace used left : List ℕ) (from : ℕ) : Type 0 where
  to : ℕ
  to_is : to ≡ length trace - length left
  taken : readings_of trace (let span : Committed = record { from = from; to = to } in span) ≡ used ++ []
  rest : drop to trace ≡ left
  onward : from ≤ to
  inside : to ≤ length trace

span_takes : (trace used left : List ℕ) (from : ℕ) → from ≤ length trace → drop from trace ≡ used ++ left → SpanTakes trace used left from
span_takes trace used left from h e =
    let len : length (drop from trace) ≡ length used + length left = ap length e ∙ length-append used left in
    let n_is : length trace - length left - from ≡ length used = omega (arith, length-drop from trace) in
    let to_is : length trace - length left ≡ from + length used = omega (arith, length-drop from trace) in
    record {
      to = length trace - length left;
      to_is = refl;
      taken = ap (λ n. take n (drop from trace)) n_is ∙ ap (take (length used)) e ∙ take-append_seam used left ∙ sym (append-nil used);
      rest = ap (λ n. drop n trace) to_is ∙ sym (drop-drop (length used) from trace) ∙ ap (drop (length used)) e ∙ drop-append_seam used left;
      onward = omega arith;
      inside = omega arith;
    }

-- the element of a number, of which holds what holds of all
found : {A : Type 0} (P : A → Type 0) (xs : List A) (i : ℕ) → i < length xs → All P xs → (x : A) × (slice_get xs i ≡ Some x) × P x
found P [] i h all = absurd (omega arith)
found P (x ∷ xs) i h all = (get_or (x ∷ xs) i x, slice_get-get_or (x ∷ xs) i x h, All-get_or P (x ∷ xs) i x h all)

-- an attempt of a task of a runnable source comes to a transition to a task, or is short
attempt_ends : (program : CheckedProgram) (task : ℕ) (shared : List (List ℕ)) (readings : List ℕ) → IsRunnable program → task < length program.tasks
    → EndsWell (length program.tasks) (attempt_of program task shared (without_answers readings))
attempt_ends program task shared readings r h =
    let f = found (TransitionComes program) program.tasks task h r.transition_comes in
    let start : Attempt = fresh_attempt shared (without_answers readings) in
    let P : Option CheckedTask → Type 0 = λ o. EndsWell (length program.tasks) (run_block (meanings program) (body_of o) start) in
    subst P (sym f.1) (f.2 start)

-- what `report_from` gives: the lines of further transitions on spans from `at` on, and the end
record IsReportFrom (n : ℕ) (source_text : List ℕ) (program : CheckedProgram) (trace : List ℕ) (k accepted at : ℕ) (s : State) (text : List ℕ) : Type 0 where
  spans : List Committed
  transitions : List Transition
  reason : Reason
  consecutive : IsConsecutive at (length trace) spans
  run : source_run program s (map (given_of trace) spans) ≡ Some transitions
  ending : IsEnding reason n (length spans)
      (attempt_of program (state_behind s transitions).task (state_behind s transitions).shared (without_answers (drop (position_after at spans) trace)))
  lines : text ≡ source_report source_text program (k + 1) spans transitions
      ++ end_line reason (k + length spans) (accepted + sum_by (λ t. length t.emitted) transitions) 0

-- one transition in front of what follows it
one_more : (reason : Reason) (n made : ℕ) (next : Outcome) → IsEnding reason n made next → IsEnding reason (suc n) (suc made) next
one_more Limit n made next e = ap suc e
one_more Readings n made next e = let less : made < n = e.0 in (omega arith, e.1)
one_more _ n made next e = e

from_here : (n : ℕ) (text : List ℕ) (program : CheckedProgram) (trace : List ℕ) (k accepted at : ℕ) (s : State) (left : List ℕ)
    → IsRunnable program → s.task < length program.tasks → at ≤ length trace → drop at trace ≡ left
    → IsReportFrom n text program trace k accepted at s (report_from n text program (length trace) k accepted s.task s.shared left)
unfolding source_report
from_here zero text program trace k accepted at s left r i h e = record {
  spans = [];
  transitions = [];
  reason = Limit;
  consecutive = h;
  run = refl;
  ending = refl;
  lines = report_at_limit 0 text program (length trace) k accepted s.task s.shared left refl
      ∙ ap (λ m. end_line Limit m accepted 0) (let same : k ≡ k + 0 = omega arith in same)
      ∙ ap (λ m. end_line Limit (k + 0) m 0) (let same : accepted ≡ accepted + 0 = omega arith in same);
}
from_here (suc n) text program trace k accepted at s left r i h e =
    go (λ accepted' at' s' left' i' h' e'. from_here n text program trace (k + 1) accepted' at' s' left' r i' h' e')
    (attempt_of program s.task s.shared (without_answers left)) refl
  where
    go : (ih : (accepted' at' : ℕ) (s' : State) (left' : List ℕ) → s'.task < length program.tasks → at' ≤ length trace → drop at' trace ≡ left'
        → IsReportFrom n text program trace (k + 1) accepted' at' s' (report_from n text program (length trace) (k + 1) accepted' s'.task s'.shared left'))
        (o : Outcome) → attempt_of program s.task s.shared (without_answers left) ≡ o
        → IsReportFrom (suc n) text program trace k accepted at s (report_from (suc n) text program (length trace) k accepted s.task s.shared left)
    go ih (goes_on a) o =
        let P : Outcome → Type 0 = EndsWell (length program.tasks) in
        absurd (subst P o (attempt_ends program s.task s.shared left r i))
    go ih (returns w a) o =
        let P : Outcome → Type 0 = EndsWell (length program.tasks) in
        absurd (subst P o (attempt_ends program s.task s.shared left r i))
    go ih short o = record {
      spans = [];
      transitions = [];
      reason = Readings;
      consecutive = h;
      run = refl;
      ending = (omega arith, ap (λ x. attempt_of program s.task s.shared (without_answers x)) e ∙ o);
      lines = report_short (suc n) text program (length trace) k accepted s.task s.shared left (omega arith) (ap completion_of o)
          ∙ ap (λ m. end_line Readings m accepted 0) (let same : k ≡ k + 0 = omega arith in same)
          ∙ ap (λ m. end_line Readings (k + 0) m 0) (let same : accepted ≡ accepted + 0 = omega arith in same);
    }
    go ih (to_task next a) o =
        let P : Outcome → Type 0 = EndsWell (length program.tasks) in
        let inside : next < length program.tasks = subst P o (attempt_ends program s.task s.shared left r i) in
        let c : Completion = record { next = next; shared = a.variables.shared; emitted = a.emitted; left = a.left; answers = a.answers } in
        let completes : completion_of (attempt_of program s.task s.shared (without_answers left)) ≡ Some c = ap completion_of o in
        let law = readings_left_over_lem program s.task s.shared (without_answers left) c completes in
        let takes = span_takes trace law.0 c.left at h (e ∙ law.1) in
        let span : Committed = record { from = at; to = takes.to } in
        let t : Transition = record { from = s.task; next = next; before = s.shared; after = c.shared; emitted = c.emitted } in
        let rest = ih (accepted + length c.emitted) takes.to (state_after s t) c.left inside takes.inside takes.rest in
        let from_is : length trace - length left ≡ at = omega (arith, length-drop at trace, ap length e) in
        let whole : completion_of (attempt_of program s.task s.shared (given_of trace span)) ≡ Some
        (record { next = next; shared = c.shared; emitted = c.emitted; left = []; answers = [] })
        = ap (λ x. completion_of (attempt_of program s.task s.shared (without_answers x))) takes.taken ∙ law.2 []
        ∙ ap (λ x. Some (record c { left = []; answers = x })) (law.3 refl) in
        let one : transition_of program s (given_of trace span) ≡ Some t = ap (λ x. x >>? exactly s) whole in
        let run : source_run program s (given_of trace span ∷ map (given_of trace) rest.spans) ≡ Some (t ∷ rest.transitions)
        = ap (λ x. x >>? λ u. source_run program (state_after s u) (map (given_of trace) rest.spans) >>? λ ts. Some (u ∷ ts)) one
        ∙ ap (λ x. x >>? λ ts. Some (t ∷ ts)) rest.run in
        let made : k + 1 + length rest.spans ≡ k + suc (length rest.spans) = omega arith in
        let more : sum_by (λ t. length t.emitted) (t ∷ rest.transitions) ≡ length c.emitted + sum_by (λ t. length t.emitted) rest.transitions
        = sum_by-cons (λ t. length t.emitted) t rest.transitions in
        let words : accepted + length c.emitted + sum_by (λ t. length t.emitted) rest.transitions
        ≡ accepted + sum_by (λ t. length t.emitted) (t ∷ rest.transitions) = omega (arith, more) in
        let behind : List ℕ = report_from n text program (length trace) (k + 1) (accepted + length c.emitted) next c.shared c.left in
        record {
          spans = span ∷ rest.spans;
          transitions = t ∷ rest.transitions;
          reason = rest.reason;
          consecutive = (refl, takes.onward, rest.consecutive);
          run = run;
          ending = one_more rest.reason n (length rest.spans) _ rest.ending;
          lines = report_more (suc n) n text program (length trace) k accepted s.task s.shared left c (omega arith) completes
              ∙ ap (λ x. transition_lines text program (k + 1) (let span : Committed = record { from = x; to = length trace - length a.left } in
              span) t ++ behind) from_is
              ∙ ap (λ x. transition_lines text program (k + 1) (let span : Committed = record { from = at; to = x } in span) t ++ behind) (sym takes.to_is)
              ∙ ap (λ x. transition_lines text program (k + 1) span t ++ x) rest.lines
              ∙ sym (append_assoc (transition_lines text program (k + 1) span t) (source_report text program (k + 1 + 1) rest.spans rest.transitions) _)
              ∙ ap (λ m. (transition_lines text program (k + 1) span t ++ source_report text program (k + 1 + 1) rest.spans rest.transitions)
              ++ end_line rest.reason m (accepted + length c.emitted + sum_by (λ t. length t.emitted) rest.transitions) 0) made
              ∙ ap (λ m. (transition_lines text program (k + 1) span t ++ source_report text program (k + 1 + 1) rest.spans rest.transitions)
              ++ end_line rest.reason (k + suc (length rest.spans)) m 0) words;
        }

pub mean_report_lem : (text : List ℕ) (program : CheckedProgram) (readings : List ℕ) → IsRunnable program
    → IsMeanReport text program readings (mean_report 10000 text program readings)
mean_report_lem text program readings r =
    let report = from_here 10000 text program readings 0 0 0 (first_state program) readings r r.entry (omega arith) refl in
    record {
      spans = report.spans;
      transitions = report.transitions;
      reason = report.reason;
      consecutive = report.consecutive;
      run = report.run;
      ending = report.ending;
      lines = report.lines
          ∙ ap (λ m. source_report text program 1 report.spans report.transitions
          ++ end_line report.reason m (0 + sum_by (λ t. length t.emitted) report.transitions) 0) (zero-add (length report.spans))
          ∙ ap (λ m. source_report text program 1 report.spans report.transitions
          ++ end_line report.reason (length report.spans) m 0) (zero-add (sum_by (λ t. length t.emitted) report.transitions));
    }
