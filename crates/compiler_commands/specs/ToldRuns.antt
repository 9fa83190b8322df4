-- What the source tells of the run of an image.
use Rattle.std.specs.Prelude.{◌≡◌, ℕ, List, map, Some}
use Rattle.plain_commands.specs.energy_trace.TraceValue.{TraceValue}
use Rattle.plain_commands.specs.source_values.Runs.{CheckedProgram}
use Rattle.image_map.specs.MapValue.{MapValue}
use Rattle.plain_commands.specs.image_text.ImageValue.{ImageValue}
use Rattle.plain_commands.specs.fram_board.Board.{fresh}
use Rattle.plain_commands.specs.board_run.Charges.{charges_of}
use Rattle.plain_commands.specs.board_run.Events.{accepted_events}
use Rattle.event_orders.specs.Answers.{AnswersInOrder}
use Rattle.source_runs.specs.Traces.{IsTraceOfWords}
use Rattle.source_runs.specs.Tells.{IsToldBySource}
use Rattle.plain_commands.specs.command_answers.Ending.{Ending, well}
use Rattle.plain_commands.specs.RunReport.{IsRunReport}

-- An image with this map has a report of its run on a trace; and each such report ends well, and is what the source tells of that run. The answers of
-- its transitions are the events that were accepted, in order.
pub record IsTold (source : List ℕ) (program : CheckedProgram) (m : MapValue) (image : ImageValue) (trace : TraceValue) : Type 0 where
  pub output : List ℕ
  pub report : IsRunReport image trace well output
  pub ends_well : (ending : Ending) (text : List ℕ) → IsRunReport image trace ending text → ending ≡ well
  pub told : (text : List ℕ) (r : IsRunReport image trace well text)
      → IsToldBySource source program m (charges_of trace.charges) (fresh image.words trace.readings trace.events) r.outcome text
  pub answered : (text : List ℕ) (r : IsRunReport image trace well text)
      → AnswersInOrder (map (λ a. a.answers) (told text r).attempts) (accepted_events (Some m) r.outcome.moments)

-- the same on any trace, by the map that the image has
abbrev pub IsToldOnTraces : List ℕ → CheckedProgram → ImageValue → Type 0
IsToldOnTraces source program image = (m : MapValue) → image.map ≡ Some m → (trace : TraceValue) → IsTraceOfWords trace
    → IsTold source program m image trace
