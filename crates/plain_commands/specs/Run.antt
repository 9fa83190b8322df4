-- What `run` makes of its texts.
use Rattle.std.specs.Prelude.{◌≡◌, ℕ, List, [], ◌∷◌, None, Ok}
use Rattle.command_texts.specs.energy_trace.TraceValue.{TraceValue}
use Rattle.command_texts.specs.energy_trace.Reading.{trace_of}
use Rattle.command_texts.specs.image_text.ImageValue.{ImageValue}
use Rattle.command_texts.specs.image_text.Reading.{image_of}
use Rattle.command_texts.specs.command_answers.Ending.{Ending}
use Rattle.command_texts.specs.command_answers.Refusals.{Refusal}
use Rattle.plain_commands.specs.RunReport.{IsRunReport}
use Rattle.command_texts.specs.Texts.{RefusesTrace, RefusesImage, SaysImage, SaysTrace}
use Rattle.command_texts.specs.command_answers.Promises.{Promise, OfTwoTexts}

-- the texts are an image and a trace, and this is the report of the image's run on the trace, which ends so
pub record Runs (image trace : List ℕ) (ending : Ending) (output : List ℕ) : Type 0 where
  pub value : ImageValue
  pub charges : TraceValue
  pub image_said : image_of image ≡ Ok value
  pub trace_said : trace_of trace ≡ Ok charges
  pub report : IsRunReport value charges ending output

-- the text of `run` at this place, from 0, is the first that is refused, and so
pub data RunRefuses (image trace : List ℕ) : ℕ → Refusal → Type 0 where
  the_image : (r : Refusal) → RefusesImage image r → RunRefuses image trace 0 r
  the_trace : (value : ImageValue) (r : Refusal) → image_of image ≡ Ok value → RefusesTrace trace r → RunRefuses image trace 1 r

-- what it promises
abbrev pub run_promise : (image trace : List ℕ) → Promise
run_promise image trace = record {
  reads = image ∷ trace ∷ [];
  judges = image ∷ trace ∷ [];
  puts = None;
  takes = OfTwoTexts (λ i t. SaysImage i × SaysTrace t);
  makes = λ texts p. OfTwoTexts (λ i t. Runs i t p.ending p.output × (p.file ≡ None)) texts;
  refuses = λ texts place r. OfTwoTexts (λ i t. RunRefuses i t place r) texts;
}
