-- The run of a source's image on a trace, by the law that each such run is told by its source.
use Rattle.std.proofs.Common.{◌≡◌, ◌∙◌, ℕ, List, Option, Some, Ok, Err, refl, sym, subst}
use Rattle.std.specs.Prelude.{map}
use Rattle.std.specs.Io.KnownBytes.{Appends}
use Rattle.plain_commands.specs.alp_io.Count.{Rose}
use Rattle.plain_commands.specs.alp_io.declared.sink.Failed.{Failed}
use Rattle.plain_commands.specs.alp_io.declared.report.Reason.{Reason}
use Rattle.plain_commands.specs.cost_bound.declared.allowance.Allow.{Allow}
use Rattle.plain_commands.specs.energy_trace.TraceValue.{TraceValue}
use Rattle.plain_commands.specs.image_text.ImageValue.{ImageValue}
use Rattle.msp_step.specs.declared.machine.Stop.TheVariants as stop
use Rattle.plain_commands.specs.fram_board.Board.{BoardValue, fresh}
use Rattle.plain_commands.specs.fram_board.Laws.{HasRun}
use Rattle.plain_commands.specs.fram_board.Run.{End, Charges, Stopped, RunOutcome}
use Rattle.plain_commands.specs.board_run.Charges.{charges_of}
use Rattle.plain_commands.specs.board_run.Events.{accepted_events}
use Rattle.plain_commands.specs.board_run.History.{History, start_of}
use Rattle.plain_commands.specs.board_run.Report.{report_of}
use Rattle.plain_commands.specs.source_values.Statements.{Outcome}
use Rattle.plain_commands.specs.source_values.Runs.{CheckedProgram}
use Rattle.plain_commands.specs.source_meaning.Acceptance.{IsAcceptedText}
use Rattle.source_maps.specs.Maps.{map_of}
use Rattle.source_runs.specs.Tells.{CommittedAttempt, IsEndOf, IsToldBySource}
use Rattle.source_runs.specs.Traces.{IsTraceOfWords}
use Rattle.memory_map.specs.declared.runtime.Logging.{Logging}
use Rattle.image_laws.specs.Compiled.{IsCompiledFor}
use Rattle.event_orders.specs.Answers.{AnswersInOrder}
use Rattle.image_reports.specs.Laws.{ImagesAreTold, ImagesAnswerInOrder}
use Rattle.plain_commands.specs.declared.run.RunEnding.{RunEnding}
use Rattle.plain_commands.specs.declared.run.RunEnding.TheVariants.{Well, AtFault}
use Rattle.plain_commands.specs.command_answers.Ending.{Ending, well, at_fault}
use Rattle.plain_commands.specs.Ends.{WritesRun}
use Rattle.plain_commands.specs.command_answers.Outcomes.{Breaks}
use Rattle.plain_commands.specs.command_answers.Outside.{Written}
use Rattle.plain_commands.specs.RunReport.{ending_of, IsReportFrom, IsRunReport}
use Rattle.compiler_commands.specs.ToldRuns.{IsTold, IsToldOnTraces}

-- a run that its source tells ends well
ends_well : (e : End) (next : Outcome) (why : Reason) → IsEndOf e next why → well ≡ ending_of e
ends_well Charges next why is = refl
ends_well (Stopped stop.Off) next why is = refl
ends_well (Stopped stop.NoReading) next why is = refl
ends_well (Stopped (stop.Illegal pc word)) next why is = absurd is
ends_well (Stopped (stop.Bus pc address)) next why is = absurd is

-- of its map's values as an image has it
module _ {logging : Logging} (law : ImagesAreTold) (order : ImagesAnswerInOrder) (runs : HasRun) (text : List ℕ) (p : CheckedProgram) (allow : Allow)
    (image : ImageValue) (accepted : IsAcceptedText text p allow) (compiled : IsCompiledFor logging text p allow image) where
  on_trace : (trace : TraceValue) → IsTraceOfWords trace → IsTold text p (map_of text p compiled.layout allow) image trace
  on_trace trace words =
      let run = runs (charges_of trace.charges) (fresh image.words trace.readings trace.events) in
      let law_told = law logging text p allow image accepted compiled trace words in
      let m = map_of text p compiled.layout allow in
      let Told : RunOutcome → List ℕ → Type 0 = IsToldBySource text p m (charges_of trace.charges) (fresh image.words trace.readings trace.events) in
      let told_so : (output : List ℕ) (r : IsRunReport image trace well output) → Told r.outcome output =
      λ output r. subst (Told r.outcome) (sym r.lines) (law_told r.outcome r.run) in
      record {
        output = report_of (start_of image) trace.events run.0;
        report = record { outcome = run.0; run = run.1; ends = ends_well _ _ _ (law_told run.0 run.1).ending; lines = refl };
        ends_well = λ ending output r. r.ends ∙ sym (ends_well _ _ _ (law_told r.outcome r.run).ending);
        told = told_so;
        answered = λ output r.
            let P : List CommittedAttempt → Type 0 =
            λ attempts. AnswersInOrder (map (λ (a : CommittedAttempt). a.answers) attempts) (accepted_events (Some m) r.outcome.moments) in
            subst P (sym (told_so output r).attempts_are) (order logging text p allow image accepted compiled trace words r.outcome r.run);
      }

  pub is_told : IsToldOnTraces text p image
  is_told m mapped trace words =
      let both : Some (map_of text p compiled.layout allow) ≡ Some m = sym compiled.map ∙ mapped in
      let same : map_of text p compiled.layout allow ≡ m = cc both in
      subst (λ x. IsTold text p x image trace) same (on_trace trace words)

-- ---- what is written of a run that ends well

pub trial_whole : (b : BoardValue) (h : History) (trace : TraceValue) (old new : Option (List ℕ)) (e : RunEnding) → e ≡ Well
    → WritesRun b h trace old new (Ok e) → (output : List ℕ) × IsReportFrom b h trace well output × Appends old new output
trial_whole b h trace old new e same writes = subst (λ x. WritesRun b h trace old new (Ok x)) same writes

pub trial_breaks : (b : BoardValue) (h : History) (trace : TraceValue) (out : Written) (f : Failed)
    → ((ending : Ending) (output : List ℕ) → IsReportFrom b h trace ending output → ending ≡ well)
    → WritesRun b h trace out.old out.new (Err f) → Rose out.faults_old out.faults_new → Breaks out (IsReportFrom b h trace well)
trial_breaks b h trace out f ends writes rose =
    (writes.1, subst (λ e. IsReportFrom b h trace e writes.1) (ends writes.0 writes.1 writes.2) writes.2, writes.3, rose)

pub no_fault : (b : BoardValue) (h : History) (trace : TraceValue) (old new : Option (List ℕ)) (e : RunEnding)
    → ((ending : Ending) (output : List ℕ) → IsReportFrom b h trace ending output → ending ≡ well)
    → e ≡ AtFault → WritesRun b h trace old new (Ok e) → ⊥
no_fault b h trace old new e ends same writes =
    let at : WritesRun b h trace old new (Ok AtFault) = subst (λ x. WritesRun b h trace old new (Ok x)) same writes in
    let is : at_fault ≡ well = ends at_fault at.0 at.1 in
    cc
