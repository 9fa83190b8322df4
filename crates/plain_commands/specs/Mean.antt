-- What `mean` makes of its texts.
use Rattle.std.specs.Prelude.{◌≡◌, ℕ, List, [], ◌∷◌, None, Ok}
use Rattle.command_texts.specs.energy_trace.TraceValue.{TraceValue}
use Rattle.command_texts.specs.energy_trace.Reading.{trace_of}
use Rattle.source_values.specs.Runs.{CheckedProgram}
use Rattle.command_texts.specs.source_report.SourceReport.{IsMeanReport}
use Rattle.command_texts.specs.command_answers.Ending.{well}
use Rattle.command_texts.specs.command_answers.Refusals.{Refusal}
use Rattle.command_texts.specs.Sources.{IsSourceText, RefusesSource, SaysSource}
use Rattle.command_texts.specs.Texts.{RefusesTrace, SaysTrace}
use Rattle.command_texts.specs.command_answers.Promises.{Promise, OfTwoTexts}

-- the texts are a source and a trace, and this is the report of the source's meaning on the trace's readings
pub record Means (source trace output : List ℕ) : Type 0 where
  pub program : CheckedProgram
  pub value : TraceValue
  pub source_said : IsSourceText source program
  pub trace_said : trace_of trace ≡ Ok value
  pub report : IsMeanReport source program value.readings output

-- the text of `mean` or `try` at this place, from 0, is the first that is refused, and so
pub data MeanRefuses (source trace : List ℕ) : ℕ → Refusal → Type 0 where
  the_source : (r : Refusal) → RefusesSource source r → MeanRefuses source trace 0 r
  its_trace : (program : CheckedProgram) (r : Refusal) → IsSourceText source program → RefusesTrace trace r → MeanRefuses source trace 1 r

-- what it promises
abbrev pub mean_promise : (source trace : List ℕ) → Promise
mean_promise source trace = record {
  reads = source ∷ trace ∷ [];
  judges = source ∷ trace ∷ [];
  puts = None;
  takes = OfTwoTexts (λ s t. SaysSource s × SaysTrace t);
  makes = λ texts p. OfTwoTexts (λ s t. Means s t p.output × (p.file ≡ None) × (p.ending ≡ well)) texts;
  refuses = λ texts place r. OfTwoTexts (λ s t. MeanRefuses s t place r) texts;
}
