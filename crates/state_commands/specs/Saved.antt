-- The state that `save` puts, and the line that it writes.
use Rattle.std.specs.Prelude.{◌≡◌, ◌<◌, ℕ, List, [], ◌∷◌, All, length, Option, Some, None, Result, Ok, IsSomeAnd}
use Rattle.plain_commands.specs.alp_io.Report.{illegal_line, bus_line, end_line}
use Rattle.fram_state.specs.address_space.Limits.{fram_words}
use Rattle.plain_commands.specs.energy_trace.TraceValue.{TraceValue}
use Rattle.plain_commands.specs.energy_trace.Reading.{trace_of}
use Rattle.plain_commands.specs.state_text.declared.state.State.{State}
use Rattle.plain_commands.specs.state_text.Reading.{state_of}
use Rattle.plain_commands.specs.state_text.Text.{state_text}
use Rattle.plain_commands.specs.fram_board.Board.{BoardValue, started}
use Rattle.plain_commands.specs.fram_board.Saved.{saved}
use Rattle.plain_commands.specs.fram_board.Run.{RunOutcome, Run}
use Rattle.plain_commands.specs.board_run.declared.trace_run.RunEnd.{RunEnd}
use Rattle.plain_commands.specs.board_run.declared.trace_run.RunFault.{RunFault}
use Rattle.plain_commands.specs.board_run.declared.trace_run.RunFault.TheVariants as fault
use Rattle.plain_commands.specs.board_run.Charges.{charges_of}
use Rattle.plain_commands.specs.board_run.History.{start_of}
use Rattle.plain_commands.specs.board_run.Report.{after_all, answer_of, last_line}
use Rattle.plain_commands.specs.source_runs.Traces.{IsTraceOfWords}
use Rattle.plain_commands.specs.command_answers.Ending.{Ending, well}
use Rattle.plain_commands.specs.Ends.{reason_of}
use Rattle.plain_commands.specs.command_answers.Refusals.{Refusal}
use Rattle.plain_commands.specs.RunReport.{ending_of}
use Rattle.plain_commands.specs.command_texts.Texts.{RefusesTrace, RefusesState, SaysState, SaysTrace}
use Rattle.plain_commands.specs.command_answers.Promises.{Promise, OfTwoTexts}

-- the board that goes on from a state, on the readings of a trace
abbrev pub from_state : State → TraceValue → BoardValue
from_state s trace = started s.image.words s.receiver trace.readings trace.events

-- the last line of the report of a run that began with this state
abbrev pub line_at_end : State → RunOutcome → List ℕ
line_at_end s r = last_line (after_all (start_of s.image) r.moments) r.ending r.board

-- where a run ends well, the file is the text of the state at its end, which reads back; at a machine fault there is none
abbrev pub IsSavedAt : Ending → Option (List ℕ) → State → Type 0
IsSavedAt well file s = IsSomeAnd file (λ text. (text ≡ state_text s) × (state_of text ≡ Ok s))
IsSavedAt ending file s = file ≡ None

-- what the type of a state says of it: it has as many words as the FRAM, and they and its receiver's number are below 65536
abbrev pub IsOfWords : State → Type 0
IsOfWords s = (length s.image.words ≡ fram_words) × All (λ w. w < 0x10000) s.image.words × (s.receiver < 0x10000)

-- so a run from it on a trace is one of words
abbrev pub RunsOnWords : State → TraceValue → RunOutcome → Type 0
RunsOnWords s trace r = IsOfWords s × IsTraceOfWords trace

-- The texts are a state, or an image, whose receiver takes word 0 next; and a trace. The board that goes on from it has one run on the
-- trace, which ends so; this file holds the FRAM, the map and the receiver's next number of the run's last board, and this is the last line of
-- the run's report. And this holds of the state, the trace and the run.
pub record Saves (Holds : State → TraceValue → RunOutcome → Type 0) (image trace : List ℕ) (file : Option (List ℕ)) (ending : Ending) (output : List ℕ) :
    Type 0 where
  pub state : State
  pub charges : TraceValue
  pub outcome : RunOutcome
  pub state_said : state_of image ≡ Ok state
  pub trace_said : trace_of trace ≡ Ok charges
  pub run : Run (charges_of charges.charges) (from_state state charges) outcome
  pub ends : ending ≡ ending_of outcome.ending
  pub put : IsSavedAt ending file (saved outcome.board state.image.map)
  pub holds : Holds state charges outcome
  pub line : output ≡ line_at_end state outcome

-- the run of the board that goes on from a state, which answers so, and the board and the count of transitions at its end
pub record RanFrom (s : State) (trace : TraceValue) (end : Result RunEnd RunFault) (board : BoardValue) (completed : ℕ) : Type 0 where
  pub outcome : RunOutcome
  pub run : Run (charges_of trace.charges) (from_state s trace) outcome
  pub answer : end ≡ answer_of outcome.ending
  pub at_end : board ≡ outcome.board
  pub count : completed ≡ (after_all (start_of s.image) outcome.moments).completed

-- the texts are this state and a trace, and the run of the board that goes on from the state, on the trace, is so
pub record RanOn (image trace : List ℕ) (s : State) (end : Result RunEnd RunFault) (board : BoardValue) (completed : ℕ) : Type 0 where
  pub charges : TraceValue
  pub state_said : state_of image ≡ Ok s
  pub trace_said : trace_of trace ≡ Ok charges
  pub ran : RanFrom s charges end board completed
  pub words : RunsOnWords s charges ran.outcome

-- the last line of a run that answers so, by the count of its transitions and the board at its end
abbrev pub told_end : RunEnd → ℕ → BoardValue → List ℕ
told_end end completed b = end_line (reason_of end) completed b.receiver.accepted b.receiver.repeats

-- the same of one that met a machine fault; of a write that failed there is none
abbrev pub told_fault : RunFault → List ℕ
told_fault (fault.Illegal pc word) = illegal_line pc word
told_fault (fault.Bus pc address) = bus_line pc address
told_fault fault.Write = []

-- the text of `save` at this place, from 0, is the first that is refused, and so; its image may be a state
pub data SaveRefuses (image trace : List ℕ) : ℕ → Refusal → Type 0 where
  the_state : (r : Refusal) → RefusesState image r → SaveRefuses image trace 0 r
  the_states_trace : (value : State) (r : Refusal) → state_of image ≡ Ok value → RefusesTrace trace r → SaveRefuses image trace 1 r

-- what `save` promises; it puts no file where its run ends at a machine fault
abbrev pub save_promise : (State → TraceValue → RunOutcome → Type 0) → (image trace state : List ℕ) → Promise
save_promise Holds image trace state = record {
  reads = image ∷ trace ∷ [];
  judges = image ∷ trace ∷ [];
  puts = Some state;
  takes = OfTwoTexts (λ i t. SaysState i × SaysTrace t);
  makes = λ texts p. OfTwoTexts (λ i t. Saves Holds i t p.file p.ending p.output) texts;
  refuses = λ texts place r. OfTwoTexts (λ i t. SaveRefuses i t place r) texts;
}
