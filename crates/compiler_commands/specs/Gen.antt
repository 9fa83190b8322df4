-- What `gen` makes of its number.
use Rattle.std.specs.Prelude.{◌≡◌, ℕ, List, [], ◌∷◌, Some, IsSomeAnd, codes}
use Rattle.plain_commands.specs.image_text.ImageValue.{ImageValue}
use Rattle.plain_commands.specs.fram_board.Board.{fresh}
use Rattle.plain_commands.specs.fram_board.Run.{RunOutcome, Run}
use Rattle.plain_commands.specs.board_run.Charges.{charges_of}
use Rattle.plain_commands.specs.board_run.History.{start_of}
use Rattle.plain_commands.specs.board_run.Report.{report_of}
use Rattle.plain_commands.specs.cost_bound.declared.allowance.Allow.{Allow}
use Rattle.plain_commands.specs.source_meaning.Acceptance.{IsAcceptedText}
use Rattle.plain_commands.specs.source_values.Runs.{CheckedProgram}
use Rattle.source_runs.specs.Tells.{IsToldBySource}
use Rattle.source_generator.specs.Source.{generated_text}
use Rattle.source_generator.specs.Trace.{generated_trace}
use Rattle.plain_commands.specs.command_answers.Ending.{well}
use Rattle.compiler_commands.specs.Generated.{generated_lines}
use Rattle.plain_commands.specs.command_texts.Sources.{RefusesSource, SaysSource}
use Rattle.plain_commands.specs.command_answers.Promises.{Promise, OfNoText}
use Rattle.compiler_commands.specs.Built.{IsBuilt}

-- These bytes are the image text of the image of the source that is generated from the number. It has one run on the number's trace for
-- its bound, of which the source tells, and these are the four lines of that run.
pub record Generates (number : ℕ) (file output : List ℕ) : Type 0 where
  pub program : CheckedProgram
  pub allow : Allow
  pub image : ImageValue
  pub outcome : RunOutcome
  pub accepted : IsAcceptedText (generated_text number) program allow
  pub built : IsBuilt (generated_text number) program allow image file
  pub run : let trace = generated_trace number allow.cycles in Run (charges_of trace.charges) (fresh image.words trace.readings trace.events) outcome
  pub told : let trace = generated_trace number allow.cycles in IsToldBySource (generated_text number) program built.map (charges_of trace.charges)
      (fresh image.words trace.readings trace.events) outcome (report_of (start_of image) trace.events outcome)
  pub lines : output ≡ generated_lines number allow.cycles (start_of image) outcome

-- What it promises. The text of the generated source, which stands in no file, is told of as `gen`.
abbrev pub gen_promise : (number : ℕ) (image : List ℕ) → Promise
gen_promise number image = record {
  reads = [];
  judges = codes "gen" ∷ [];
  puts = Some image;
  takes = OfNoText (SaysSource (generated_text number));
  makes = λ texts p. OfNoText (IsSomeAnd p.file (λ file. Generates number file p.output) × (p.ending ≡ well)) texts;
  refuses = λ texts place r. OfNoText (RefusesSource (generated_text number) r × (place ≡ 0)) texts;
}
