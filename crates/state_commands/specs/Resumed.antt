-- What `resume` makes of its texts: the report of the run that goes on from a state; and why a state is refused.
use Rattle.std.specs.Prelude.{◌≡◌, ℕ, List, codes, Ok, Err, [], ◌∷◌, None}
use Rattle.plain_commands.specs.energy_trace.TraceValue.{TraceValue}
use Rattle.plain_commands.specs.energy_trace.Reading.{trace_of}
use Rattle.plain_commands.specs.image_text.ImageValue.{ImageValue}
use Rattle.plain_commands.specs.image_text.Reading.{image_of}
use Rattle.plain_commands.specs.state_text.declared.state.State.{State}
use Rattle.plain_commands.specs.state_text.Reading.{state_of}
use Rattle.fram_state.specs.declared.fault.StateFault.{StateFault}
use Rattle.fram_state.specs.declared.fault.StateFault.TheVariants.{OtherMap, OtherWord, Unsound}
use Rattle.fram_state.specs.Belongs.{Belongs, IsAnswer}
use Rattle.fram_state.specs.Rules.{rule_name}
use Rattle.plain_commands.specs.fram_board.Run.{RunOutcome}
use Rattle.plain_commands.specs.board_run.History.{start_of}
use Rattle.plain_commands.specs.source_runs.Traces.{IsTraceOfWords}
use Rattle.plain_commands.specs.command_answers.Ending.{Ending}
use Rattle.plain_commands.specs.command_answers.Refusals.{Detail, Refusal, name, address}
use Rattle.plain_commands.specs.RunReport.{IsReportFrom}
use Rattle.state_commands.specs.Saved.{RunsOnWords, from_state}
use Rattle.plain_commands.specs.command_texts.Texts.{RefusesTrace, RefusesImage, RefusesState, SaysTrace}
use Rattle.plain_commands.specs.command_answers.Promises.{Promise, OfThreeTexts}

-- The texts are an image, a state that belongs to it, and a trace. This is the report of the run of the board that goes on from the
-- state, on the trace, and that run ends so. And this holds of them, the run and the report.
pub record Resumes (Holds : ImageValue → State → TraceValue → RunOutcome → List ℕ → Type 0) (image state trace : List ℕ) (ending : Ending)
    (output : List ℕ) : Type 0 where
  pub value : ImageValue
  pub saved : State
  pub charges : TraceValue
  pub image_said : image_of image ≡ Ok value
  pub state_said : state_of state ≡ Ok saved
  pub trace_said : trace_of trace ≡ Ok charges
  pub belongs : Belongs value saved
  pub report : IsReportFrom (from_state saved charges) (start_of saved.image) charges ending output
  pub holds : Holds value saved charges report.outcome output

-- a run from a state on a trace is one of words, whatever is reported of it
abbrev pub ResumesOnWords : ImageValue → State → TraceValue → RunOutcome → List ℕ → Type 0
ResumesOnWords image s trace r output = RunsOnWords s trace r

-- the texts are this image, this state and this trace
pub record IsResumption (image state trace : List ℕ) (value : ImageValue) (saved : State) (charges : TraceValue) : Type 0 where
  pub image_said : image_of image ≡ Ok value
  pub state_said : state_of state ≡ Ok saved
  pub trace_said : trace_of trace ≡ Ok charges
  pub words : IsTraceOfWords charges

-- ---- a state that is refused

-- a refusal of a whole state, which keeps this
abbrev pub of_state : List ℕ → Detail → Refusal
of_state kind detail = record { line = 0; kind = kind; detail = detail }

-- what is told of a state that a board may not go on from
abbrev pub state_refusal : StateFault → Refusal
state_refusal OtherMap = of_state (codes "OtherImage") (name (codes "map"))
state_refusal (OtherWord a) = of_state (codes "OtherImage") (address a)
state_refusal (Unsound rule) = of_state (codes "Unsound") (name (rule_name rule))

-- a state doesn't belong to an image, and is refused so
abbrev pub RefusesOther : ImageValue → State → Refusal → Type 0
RefusesOther image s r = (fault : StateFault) × IsAnswer image s (Err fault) × (r ≡ state_refusal fault)

-- the texts are an image and a state that is taken with it
pub record SaysItsState (image state : List ℕ) : Type 0 where
  pub value : ImageValue
  pub saved : State
  pub image_said : image_of image ≡ Ok value
  pub state_said : state_of state ≡ Ok saved
  pub taken : IsAnswer value saved (Ok tt)

-- the text of `resume` at this place, from 0, is the first that is refused, and so; behind all faults of the texts a state that doesn't belong to the image
pub data ResumeRefuses (image state trace : List ℕ) : ℕ → Refusal → Type 0 where
  the_states_image : (r : Refusal) → RefusesImage image r → ResumeRefuses image state trace 0 r
  the_resumed_state : (value : ImageValue) (r : Refusal) → image_of image ≡ Ok value → RefusesState state r → ResumeRefuses image state trace 1 r
  the_resumed_trace : (value : ImageValue) (saved : State) (r : Refusal) → image_of image ≡ Ok value → state_of state ≡ Ok saved
      → RefusesTrace trace r → ResumeRefuses image state trace 2 r
  the_other_state : (value : ImageValue) (saved : State) (charges : TraceValue) (r : Refusal) → image_of image ≡ Ok value → state_of state ≡ Ok saved
      → trace_of trace ≡ Ok charges → RefusesOther value saved r → ResumeRefuses image state trace 1 r

-- what it promises
abbrev pub resume_promise : (ImageValue → State → TraceValue → RunOutcome → List ℕ → Type 0) → (image state trace : List ℕ) → Promise
resume_promise Holds image state trace = record {
  reads = image ∷ state ∷ trace ∷ [];
  judges = image ∷ state ∷ trace ∷ [];
  puts = None;
  takes = OfThreeTexts (λ i s t. SaysItsState i s × SaysTrace t);
  makes = λ texts p. OfThreeTexts (λ i s t. Resumes Holds i s t p.ending p.output × (p.file ≡ None)) texts;
  refuses = λ texts place r. OfThreeTexts (λ i s t. ResumeRefuses i s t place r) texts;
}
