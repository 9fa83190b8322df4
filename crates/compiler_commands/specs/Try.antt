-- What `try` and `undo` make of their texts.
use Rattle.std.specs.Prelude.{◌≡◌, ℕ, List, [], ◌∷◌, map, Some, Ok, IsSomeAnd}
use Rattle.plain_commands.specs.energy_trace.TraceValue.{TraceValue}
use Rattle.plain_commands.specs.energy_trace.Reading.{trace_of}
use Rattle.plain_commands.specs.image_text.ImageValue.{ImageValue}
use Rattle.plain_commands.specs.fram_board.Board.{fresh}
use Rattle.plain_commands.specs.board_run.Charges.{charges_of}
use Rattle.plain_commands.specs.board_run.Events.{accepted_events}
use Rattle.event_orders.specs.Answers.{AnswersInOrder}
use Rattle.plain_commands.specs.cost_bound.declared.allowance.Allow.{Allow}
use Rattle.plain_commands.specs.source_meaning.Acceptance.{IsAcceptedText}
use Rattle.plain_commands.specs.source_values.Runs.{CheckedProgram}
use Rattle.source_runs.specs.Tells.{IsToldBySource}
use Rattle.plain_commands.specs.command_answers.Ending.{well}
use Rattle.plain_commands.specs.RunReport.{IsRunReport}
use Rattle.plain_commands.specs.command_texts.Sources.{IsSourceText, RefusesSource, SaysSource}
use Rattle.plain_commands.specs.command_texts.Texts.{RefusesTrace, SaysTrace}
use Rattle.plain_commands.specs.command_answers.Refusals.{Refusal}
use Rattle.plain_commands.specs.command_answers.Promises.{Promise, OfTwoTexts}
use Rattle.memory_map.specs.declared.runtime.Logging.{Logging}
use Rattle.memory_map.specs.declared.runtime.Logging.TheVariants.{Redo, Undo}
use Rattle.compiler_commands.specs.Built.{IsBuiltFor}

-- The texts are a source and a trace. These bytes are the image text of the source's image for a runtime that logs so, and this is the report of the
-- run of that image on the trace, which ends well. And it is what the source tells of that run, in which the answers of the transitions, joined, are
-- the first of the events that were accepted, in order and each once.
pub record Tries (logging : Logging) (source trace file output : List ℕ) : Type 0 where
  pub program : CheckedProgram
  pub allow : Allow
  pub image : ImageValue
  pub charges : TraceValue
  pub accepted : IsAcceptedText source program allow
  pub trace_said : trace_of trace ≡ Ok charges
  pub built : IsBuiltFor logging source program allow image file
  pub report : IsRunReport image charges well output
  pub told : IsToldBySource source program built.map (charges_of charges.charges) (fresh image.words charges.readings charges.events) report.outcome output
  pub answered : AnswersInOrder (map (λ a. a.answers) told.attempts) (accepted_events (Some built.map) report.outcome.moments)

-- the text of `try` or `undo` at this place, from 0, is the first that is refused, and so
pub data TryRefuses (source trace : List ℕ) : ℕ → Refusal → Type 0 where
  the_tried_source : (r : Refusal) → RefusesSource source r → TryRefuses source trace 0 r
  the_tried_trace : (program : CheckedProgram) (r : Refusal) → IsSourceText source program → RefusesTrace trace r → TryRefuses source trace 1 r

-- What they promise, by how the runtime logs. A source with functions is refused as one that isn't compiled yet.
abbrev pub trial_promise : (logging : Logging) (source trace image : List ℕ) → Promise
trial_promise logging source trace image = record {
  reads = source ∷ trace ∷ [];
  judges = source ∷ trace ∷ [];
  puts = Some image;
  takes = OfTwoTexts (λ s t. SaysSource s × SaysTrace t);
  makes = λ texts p. OfTwoTexts (λ s t. IsSomeAnd p.file (λ file. Tries logging s t file p.output) × (p.ending ≡ well)) texts;
  refuses = λ texts place r. OfTwoTexts (λ s t. TryRefuses s t place r) texts;
}

-- `try` works in copies
abbrev pub try_promise : (source trace image : List ℕ) → Promise
try_promise = trial_promise Redo

-- and `undo` puts back what stood there
abbrev pub undo_promise : (source trace image : List ℕ) → Promise
undo_promise = trial_promise Undo
