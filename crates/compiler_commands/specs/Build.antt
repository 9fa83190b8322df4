-- What `build` makes of its text.
use Rattle.std.specs.Prelude.{◌≡◌, ℕ, List, [], ◌∷◌, Some, IsSomeAnd}
use Rattle.plain_commands.specs.energy_trace.TraceValue.{TraceValue}
use Rattle.plain_commands.specs.image_text.ImageValue.{ImageValue}
use Rattle.plain_commands.specs.alp_io.Report.{bound_line}
use Rattle.plain_commands.specs.cost_bound.declared.allowance.Allow.{Allow}
use Rattle.plain_commands.specs.source_meaning.Acceptance.{IsAcceptedText}
use Rattle.image_reports.specs.ImageLaw.{IsLawful}
use Rattle.plain_commands.specs.source_values.Runs.{CheckedProgram}
use Rattle.source_runs.specs.Traces.{IsTraceOfWords}
use Rattle.plain_commands.specs.command_answers.Ending.{well}
use Rattle.compiler_commands.specs.ToldRuns.{IsTold}
use Rattle.plain_commands.specs.command_texts.Sources.{RefusesSource, SaysSource}
use Rattle.plain_commands.specs.command_answers.Promises.{Promise, OfOneText}
use Rattle.compiler_commands.specs.Built.{IsBuilt}

-- The text is a source, these bytes are the image text of its image, and this is the line of its bound. On any trace the run of that
-- image is told by the source; and the law of images holds of it, wherever its power is cut.
pub record Builds (source file output : List ℕ) : Type 0 where
  pub program : CheckedProgram
  pub allow : Allow
  pub image : ImageValue
  pub accepted : IsAcceptedText source program allow
  pub built : IsBuilt source program allow image file
  pub bound : output ≡ bound_line allow.cycles
  pub told : (trace : TraceValue) → IsTraceOfWords trace → IsTold source program built.map image trace
  pub lawful : IsLawful source program allow built.compiled.layout image

-- What it promises. A source with functions is refused as one that isn't compiled yet.
abbrev pub build_promise : (source image : List ℕ) → Promise
build_promise source image = record {
  reads = source ∷ [];
  judges = source ∷ [];
  puts = Some image;
  takes = OfOneText SaysSource;
  makes = λ texts p. OfOneText (λ s. IsSomeAnd p.file (λ file. Builds s file p.output) × (p.ending ≡ well)) texts;
  refuses = λ texts place r. OfOneText (λ s. RefusesSource s r × (place ≡ 0)) texts;
}
