-- The trace of `gen`, and the run of a generated source's image on it.
use Rattle.std.proofs.Common.{◌≡◌, ◌∙◌, ℕ, zero, suc, ◌<◌, ◌^◌, List, [], Ok, Err, Option, refl, sym, ap, subst, arith, All}
use Rattle.std.proofs.lemmas.List.Elements.{All-nil, All-cons}
use Rattle.std.proofs.lemmas.List.Sorted.{IsNonDecreasingBy-short}
use Rattle.plain_commands.specs.cost_bound.declared.allowance.Allow.{Allow}
use Rattle.plain_commands.specs.energy_trace.Ranges.{IsCharge, IsEvent}
use Rattle.plain_commands.specs.energy_trace.TraceValue.{TraceValue, Event}
use Rattle.plain_commands.specs.image_text.ImageValue.{ImageValue}
use Rattle.msp_step.specs.declared.machine.Stop.TheVariants as stop
use Rattle.plain_commands.specs.fram_board.Board.{BoardValue, fresh}
use Rattle.plain_commands.specs.fram_board.Run.{End, Charges, Stopped, RunOutcome, Run}
use Rattle.plain_commands.specs.board_run.Charges.{charges_of}
use Rattle.plain_commands.specs.board_run.History.{History, start_of}
use Rattle.plain_commands.specs.board_run.Report.{report_of, answer_of, last_line, HasWriteCause, IsRunOf}
use Rattle.plain_commands.specs.board_run.declared.trace_run.RunEnd.{RunEnd}
use Rattle.plain_commands.specs.board_run.declared.trace_run.RunEnd.TheVariants as run_end
use Rattle.plain_commands.specs.board_run.declared.trace_run.RunFault.{RunFault}
use Rattle.plain_commands.specs.board_run.declared.trace_run.RunFault.TheVariants as fault
use Rattle.source_generator.specs.Draws.{next, drawn, draws, behind}
use Rattle.source_generator.specs.Source.{generated_text}
use Rattle.source_generator.specs.Trace.{charge_of, charges, behind_source, generated_trace}
use Rattle.source_generator.proofs.Interface.{few_charges, each_once, few_readings}
use Rattle.plain_commands.specs.source_values.Runs.{CheckedProgram}
use Rattle.plain_commands.specs.source_meaning.Acceptance.{IsAcceptedText}
use Rattle.source_runs.specs.Traces.{IsTraceOfWords}
use Rattle.plain_commands.specs.command_answers.Ending.{Ending, well, at_fault}
use Rattle.compiler_commands.specs.Generated.{RanSo, ended_line, four_lines, generated_lines}
use Rattle.compiler_commands.specs.Built.{IsBuilt}
use Rattle.compiler_commands.specs.Gen.{Generates}
use Rattle.plain_commands.specs.RunReport.{ending_of, IsRunReport}
use Rattle.compiler_commands.specs.ToldRuns.{IsTold, IsToldOnTraces}
use Rattle.plain_commands.proofs.command_answers.Interface.{never_rises}
use Rattle.plain_commands.proofs.Interface.{is_written}

-- ---- the trace is of words

charges_are : (n bound s : ℕ) → bound < 2 ^ 32 → All IsCharge (charges n bound s)
unfolding charges
charges_are zero bound s low = All-nil IsCharge
charges_are (suc n) bound s low =
    All-cons IsCharge (charge_of bound s) (charges n bound (behind 2 s)) (record { n = omega (arith, low); fill = omega arith; times = omega arith })
    (charges_are n bound (behind 2 s) low)

draws_are : (n s : ℕ) → All (λ w. w < 0x10000) (draws n s)
unfolding draws
draws_are zero s = All-nil (λ w. w < 0x10000)
draws_are (suc n) s = All-cons (λ w. w < 0x10000) (drawn s) (draws n (next s)) (omega arith) (draws_are n (next s))

generated_are : (number bound : ℕ) → bound < 2 ^ 32 → IsTraceOfWords (generated_trace number bound)
unfolding generated_trace
generated_are number bound low =
    let s = behind_source number in
    record {
      trace = record {
        charges = few_charges _ bound (behind 512 s) refl;
        readings = few_readings _ s refl;
        repeats = each_once _ bound (behind 512 s) refl;
        events = omega arith;
        words = All-nil (λ (e : Event). 0 < e.1);
        order = IsNonDecreasingBy-short (λ (e : Event). e.0) [] (omega arith);
      };
      charges = charges_are 256 bound (behind 512 s) low;
      readings = draws_are 512 s;
      events = All-nil IsEvent;
    }

pub generated_words : (number bound : ℕ) (trace : TraceValue) → bound < 2 ^ 32 → trace ≡ generated_trace number bound → IsTraceOfWords trace
generated_words number bound trace low is = subst IsTraceOfWords (sym is) (generated_are number bound low)

-- ---- a run that ends well and is written nowhere

-- its end is no fault, and a sink that never fails gives no other
pub no_fault : (image : ImageValue) (trace : TraceValue) (old new : Option (List ℕ)) (x : RunFault) (board after : BoardValue) (watch now : History)
    → board ≡ fresh image.words trace.readings trace.events → watch ≡ start_of image
    → ((ending : Ending) (output : List ℕ) → IsRunReport image trace ending output → ending ≡ well)
    → IsRunOf watch (charges_of trace.charges) trace.events board old new (Err x) after now → HasWriteCause 0 0 (Err x) → ⊥
no_fault image trace old new x board after watch now is_board is_watch ends r cause =
    go x (subst (λ h. IsRunOf h (charges_of trace.charges) trace.events (fresh image.words trace.readings trace.events) old new (Err x) after now) is_watch
    (subst (λ b. IsRunOf watch (charges_of trace.charges) trace.events b old new (Err x) after now) is_board r)) cause
  where
    faulty : at_fault ≡ well → ⊥
    faulty e = cc

    go : (y : RunFault) → IsRunOf (start_of image) (charges_of trace.charges) trace.events (fresh image.words trace.readings trace.events) old new (Err y)
        after now
        → HasWriteCause 0 0 (Err y) → ⊥
    go (fault.Illegal pc word) q w = let f = is_written _ _ trace old new (Err (fault.Illegal pc word)) after now q in faulty (ends at_fault f.0 f.1)
    go (fault.Bus pc address) q w = let f = is_written _ _ trace old new (Err (fault.Bus pc address)) after now q in faulty (ends at_fault f.0 f.1)
    go fault.Write q w = never_rises (w.failed refl)

-- the last line is that of the answer
ended_so : (e : End) (end : RunEnd) (b : BoardValue) (now : History) → Ok end ≡ answer_of e → ended_line end b now ≡ last_line now e b
ended_so Charges end b now is = let same : end ≡ run_end.Charges = cc in ap (λ x. ended_line x b now) same
ended_so (Stopped stop.Off) end b now is = let same : end ≡ run_end.Off = cc in ap (λ x. ended_line x b now) same
ended_so (Stopped stop.NoReading) end b now is = let same : end ≡ run_end.Readings = cc in ap (λ x. ended_line x b now) same
ended_so (Stopped (stop.Illegal pc word)) end b now is = cc
ended_so (Stopped (stop.Bus pc address)) end b now is = cc

pub lines_of_run : (number bound : ℕ) (image : ImageValue) (trace : TraceValue) (end : RunEnd) (board : BoardValue) (now : History)
    → (r : RanSo image trace end board now)
    → four_lines number bound (ended_line end board now) now ≡ generated_lines number bound (start_of image) r.outcome
lines_of_run number bound image trace end board now r =
    let line : ended_line end board now ≡ last_line now r.outcome.ending r.outcome.board =
    ap (λ b. ended_line end b now) r.at_end ∙ ended_so r.outcome.ending end r.outcome.board now r.answer in
    ap (λ l. four_lines number bound l now) line
    ∙ ap (λ h. four_lines number bound (last_line h r.outcome.ending r.outcome.board) h) r.history

-- ---- what `gen` makes

-- of one run of the image
generates_run : (number : ℕ) (file output : List ℕ) (p : CheckedProgram) (allow : Allow) (image : ImageValue)
    → IsAcceptedText (generated_text number) p allow → (built : IsBuilt (generated_text number) p allow image file)
    → IsTold (generated_text number) p built.map image (generated_trace number allow.cycles)
    → (r : (o : RunOutcome) × Run (charges_of (generated_trace number allow.cycles).charges)
    (fresh image.words (generated_trace number allow.cycles).readings (generated_trace number allow.cycles).events) o)
    → output ≡ generated_lines number allow.cycles (start_of image) r.0 → Generates number file output
generates_run number file output p allow image accepted built told r lines =
    let text = report_of (start_of image) (generated_trace number allow.cycles).events r.0 in
    let ends = told.ends_well (ending_of r.0.ending) text (record { outcome = r.0; run = r.1; ends = refl; lines = refl }) in
    record {
      program = p;
      allow = allow;
      image = image;
      outcome = r.0;
      accepted = accepted;
      built = built;
      run = r.1;
      told = told.told text (record { outcome = r.0; run = r.1; ends = sym ends; lines = refl });
      lines = lines;
    }

-- of a source that keeps its text, of its trace for its bound, and of any run of its image
pub generates : (number bound : ℕ) (source text file : List ℕ) (p : CheckedProgram) (allow : Allow) (image : ImageValue) (trace : TraceValue)
    → text ≡ source → source ≡ generated_text number → bound ≡ allow.cycles → trace ≡ generated_trace number bound
    → IsAcceptedText source p allow → IsBuilt text p allow image file → IsToldOnTraces text p image → IsTraceOfWords trace
    → (r : (o : RunOutcome) × Run (charges_of trace.charges) (fresh image.words trace.readings trace.events) o)
    → (output : List ℕ) → output ≡ generated_lines number bound (start_of image) r.0 → Generates number file output
generates number bound source text file p allow image trace kept is is_bound made accepted built told words r output lines =
    let own : text ≡ generated_text number = kept ∙ is in
    let drawn : trace ≡ generated_trace number allow.cycles = made ∙ ap (λ b. generated_trace number b) is_bound in
    let new = subst (λ y. IsBuilt y p allow image file) own built in
    generates_run number file output p allow image (subst (λ y. IsAcceptedText y p allow) is accepted) new
    (subst (λ y. IsToldOnTraces y p image) own told new.map new.mapped (generated_trace number allow.cycles) (subst IsTraceOfWords drawn words))
    (r.0, subst (λ y. Run (charges_of y.charges) (fresh image.words y.readings y.events) r.0) drawn r.1)
    (lines ∙ ap (λ b. generated_lines number b (start_of image) r.0) is_bound)
