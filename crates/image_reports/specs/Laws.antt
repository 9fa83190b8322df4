-- The headline: the report of the image of an accepted source, for either runtime, on any trace, is told by the source.
use Rattle.std.specs.Prelude.{◌≡◌, ℕ, List, ◌++◌, map, Some}
use Rattle.cost_bound.specs.declared.allowance.Allow.{Allow}
use Rattle.energy_trace.specs.TraceValue.{TraceValue}
use Rattle.image_text.specs.ImageValue.{ImageValue}
use Rattle.fram_board.specs.Board.{fresh}
use Rattle.fram_board.specs.Run.{Moment, RunOutcome, Run}
use Rattle.board_run.specs.Charges.{charges_of}
use Rattle.board_run.specs.Events.{accepted_events}
use Rattle.board_run.specs.History.{start_of}
use Rattle.board_run.specs.Report.{report_of}
use Rattle.machine_effects.specs.Runs.{last_board}
use Rattle.run_charges.specs.View.{outside_of}
use Rattle.source_values.specs.Runs.{CheckedProgram}
use Rattle.source_meaning.specs.Acceptance.{IsAcceptedText}
use Rattle.source_runs.specs.Naming.{IsMapOf}
use Rattle.source_runs.specs.Traces.{IsTraceOfWords}
use Rattle.source_runs.specs.Tells.{at_first, EachChargePays, IsToldBySource, attempts_of, no_answers}
use Rattle.event_orders.specs.Answers.{AnswersInOrder}
use Rattle.memory_map.specs.declared.runtime.Logging.{Logging}
use Rattle.compiled_bounds.specs.Capacities.{KeepsCapacities}
use Rattle.source_maps.specs.Maps.{map_of}
use Rattle.task_needs.specs.Needs.{need_of}
use Rattle.image_laws.specs.Compiled.{IsCompiledFor}
use Rattle.image_reports.specs.ImageLaw.{StackIsKept}

-- on any trace of words, the report of the one run of its fresh board is told by the source
abbrev pub ImagesAreTold : Type 0
ImagesAreTold = (logging : Logging) (text : List ℕ) (p : CheckedProgram) (allow : Allow) (image : ImageValue) → IsAcceptedText text p allow
    → (c : IsCompiledFor logging text p allow image) → (trace : TraceValue) → IsTraceOfWords trace → (r : RunOutcome)
    → Run (charges_of trace.charges) (fresh image.words trace.readings trace.events) r
    → IsToldBySource text p (map_of text p c.layout allow) (charges_of trace.charges) (fresh image.words trace.readings trace.events) r
    (report_of (start_of image) trace.events r)

-- and the answers that its transitions had, joined, are the first of the events that were accepted, in order and each once
abbrev pub ImagesAnswerInOrder : Type 0
ImagesAnswerInOrder = (logging : Logging) (text : List ℕ) (p : CheckedProgram) (allow : Allow) (image : ImageValue) → IsAcceptedText text p allow
    → (c : IsCompiledFor logging text p allow image) → (trace : TraceValue) → IsTraceOfWords trace → (r : RunOutcome)
    → Run (charges_of trace.charges) (fresh image.words trace.readings trace.events) r
    → let m = map_of text p c.layout allow in
    AnswersInOrder (map (λ a. a.answers) (attempts_of m (at_first m (fresh image.words trace.readings trace.events)) no_answers r.moments))
    (accepted_events (Some m) r.moments)

-- the map of an image names the variables and the tasks of the source
abbrev pub ImagesAreMapped : Type 0
ImagesAreMapped = (logging : Logging) (text : List ℕ) (p : CheckedProgram) (allow : Allow) (image : ImageValue) → IsAcceptedText text p allow
    → (c : IsCompiledFor logging text p allow image) → IsMapOf text p (map_of text p c.layout allow)

-- and at each of its boards the runtime's counts keep to the capacities of its buffers, and version words to VER
abbrev pub ImagesKeepCapacities : Type 0
ImagesKeepCapacities = (logging : Logging) (text : List ℕ) (p : CheckedProgram) (allow : Allow) (image : ImageValue) → IsAcceptedText text p allow
    → (c : IsCompiledFor logging text p allow image) → (trace : TraceValue) → IsTraceOfWords trace → (r : RunOutcome)
    → Run (charges_of trace.charges) (fresh image.words trace.readings trace.events) r
    → (ms rest : List Moment) → r.moments ≡ ms ++ rest
    → KeepsCapacities c.layout (outside_of (last_board (fresh image.words trace.readings trace.events) ms)).fram

-- and SP stays in the stack of the task in whose code the board stands
abbrev pub ImagesKeepTheirStacks : Type 0
ImagesKeepTheirStacks = (logging : Logging) (text : List ℕ) (p : CheckedProgram) (allow : Allow) (image : ImageValue) → IsAcceptedText text p allow
    → (c : IsCompiledFor logging text p allow image) → (trace : TraceValue) → IsTraceOfWords trace → (r : RunOutcome)
    → Run (charges_of trace.charges) (fresh image.words trace.readings trace.events) r
    → (ms rest : List Moment) → r.moments ≡ ms ++ rest
    → StackIsKept p c.layout (last_board (fresh image.words trace.readings trace.events) ms)

-- and each charge that is spent is less than what the tasks need, under the image's runtime, whose transitions were completed in it, and the one that was to
-- come, beside what events take
abbrev pub ImagesKeepToNeeds : Type 0
ImagesKeepToNeeds = (logging : Logging) (text : List ℕ) (p : CheckedProgram) (allow : Allow) (image : ImageValue) → IsAcceptedText text p allow
    → (c : IsCompiledFor logging text p allow image) → (trace : TraceValue) → IsTraceOfWords trace → (r : RunOutcome)
    → Run (charges_of trace.charges) (fresh image.words trace.readings trace.events) r
    → let m = map_of text p c.layout allow in let b = fresh image.words trace.readings trace.events in
    EachChargePays m (λ h. need_of p c.layout h.task) (charges_of trace.charges) b (at_first m b) r
