-- The report of a run, by its dones.
use Rattle.std.proofs.Common.{◌≡◌, ◌-◌, refl, sym, ap, ap₂, ◌∙◌, arith, List, [], ◌++◌, length, append-nil, Some}
use Rattle.std.proofs.lemmas.List.{take_all}
use Rattle.std.specs.Prelude.{flat_map}
use Rattle.msp_step.specs.declared.machine.Stop.TheVariants as stop
use Rattle.alp_io.specs.Report.{accepted_line, bound_line, end_line}
use Rattle.alp_io.specs.declared.report.Reason.TheVariants as reason
use Rattle.image_map.specs.MapValue.{MapValue}
use Rattle.image_map.specs.Kept.{IsMap}
use Rattle.fram_board.specs.Board.{BoardValue}
use Rattle.fram_board.specs.Run.{End, Charges, Stopped, BoardCharge, Moment, RunOutcome}
use Rattle.board_run.specs.History.{start_with, more_lines}
use Rattle.board_run.specs.History as board
use Rattle.board_run.specs.Events.{event_counts}
use Rattle.board_run.specs.Report.{after_all, events_lines, lines_from, last_line}
use Rattle.machine_effects.specs.World.{World}
use Rattle.machine_effects.specs.Runs.{last_board}
use Rattle.crash_rules.specs.History.{first_history}
use Rattle.run_charges.specs.Charges.{observed}
use Rattle.run_charges.specs.Laws.{IsProgramRun}
use Rattle.model_runs.specs.Events.{marks_of, IsInFront, counted, dones_lines}
use Rattle.model_runs.specs.EventLaws.{StartsWith, LinesAreOfDones, ReportIsOfDones, FewWordsHaveLines}
use Rattle.run_charges.proofs.Interface.{front_moments}
use Rattle.model_runs.proofs.Histories.{Together, Leads, moments_lead, first_histories_are_the_same}

-- a front of a run from its first histories on
first_lead : (cs : List BoardCharge) (b : BoardValue) (r : RunOutcome) (ms rest : List Moment) → IsProgramRun cs b r → r.moments ≡ ms ++ rest
    → (m : MapValue) (x : World) → IsMap m → IsInFront m → StartsWith b x → (end : BoardValue)
    × Leads m x end (after_all (start_with b.fram (Some m)) ms) (first_history (marks_of m) x) (observed (marks_of m) ms (first_history (marks_of m) x))
    (lines_from (start_with b.fram (Some m)) ms)
first_lead cs b r ms rest run e m x ok front s =
    let begun = first_histories_are_the_same b m x ok front s in
    let t : Together m x b (start_with b.fram (Some m)) (first_history (marks_of m) x) =
    record { whole = run.of_words.whole; words = run.of_words.words; same = begun.0; tells = begun.1 } in (
      last_board b ms,
      moments_lead m x ok front b (start_with b.fram (Some m)) (first_history (marks_of m) x) ms t
          (front_moments b r ms rest run.moments e),
    )

pub lines_are_of_dones : LinesAreOfDones
lines_are_of_dones cs b r ms rest run e m x ok front s =
    let all = (first_lead cs b r ms rest run e m x ok front s).1 in
    all.told.told ∙ ap (dones_lines m 0 x) (sym all.told.completed)

-- the last line reads of the history how many transitions were completed
same_last : (h k : board.History) (e : End) (b : BoardValue) → h.completed ≡ k.completed → last_line h e b ≡ last_line k e b
same_last h k Charges b e = ap (λ n. end_line reason.Charges n b.receiver.accepted b.receiver.repeats) e
same_last h k (Stopped stop.Off) b e = ap (λ n. end_line reason.Off n b.receiver.accepted b.receiver.repeats) e
same_last h k (Stopped stop.NoReading) b e = ap (λ n. end_line reason.Readings n b.receiver.accepted b.receiver.repeats) e
same_last h k (Stopped (stop.Illegal pc word)) b e = refl
same_last h k (Stopped (stop.Bus pc address)) b e = refl

-- the report is the bound, the lines of the dones, and how the run ended
pub report_is_of_dones : ReportIsOfDones
report_is_of_dones cs b r run m x ok front s h e =
    let whole : r.moments ≡ r.moments ++ [] = sym (append-nil r.moments) in
    let all = (first_lead cs b r r.moments [] run whole m x ok front s).1 in
    let lines = lines_are_of_dones cs b r r.moments [] run whole m x ok front s in
    let last = same_last (after_all (start_with b.fram (Some m)) r.moments) h r.ending r.board (all.together.same.alike.completed ∙ sym e) in
    let ends = ap (λ l. events_lines b.line.coming (event_counts (Some m) r) ++ l) last in
    ap₂ (λ p q. bound_line m.bound ++ (p ++ q)) lines ends

-- where at most 256 words are accepted, each has its line
pub few_words_have_lines : FewWordsHaveLines
few_words_have_lines ws few =
    let none : length ws - 256 ≡ 0 = omega arith in
    ap₂ (λ p n. flat_map accepted_line p ++ more_lines (counted n)) (take_all 256 ws few) none ∙ append-nil (flat_map accepted_line ws)
