-- What `bounds` makes of its text.
use Rattle.std.specs.Prelude.{◌≡◌, ℕ, List, [], ◌∷◌, None}
use Rattle.plain_commands.specs.image_text.ImageValue.{ImageValue}
use Rattle.plain_commands.specs.cost_bound.declared.allowance.Allow.{Allow}
use Rattle.plain_commands.specs.source_meaning.Acceptance.{IsAcceptedText}
use Rattle.plain_commands.specs.source_values.Runs.{CheckedProgram}
use Rattle.memory_map.specs.declared.runtime.Logging.TheVariants.{Undo}
use Rattle.memory_map.specs.MemoryMap.{logged_map}
use Rattle.image_laws.specs.Compiled.{IsCompiledFor, IsCompiled}
use Rattle.image_reports.specs.ImageLaw.{IsLawful}
use Rattle.need_lines.specs.Rows.{NeedRow}
use Rattle.need_lines.specs.Lines.{needs_text}
use Rattle.source_needs.specs.Needs.{AreNeedsOf}
use Rattle.plain_commands.specs.command_answers.Ending.{well}
use Rattle.plain_commands.specs.command_texts.Sources.{RefusesSource, SaysSource}
use Rattle.plain_commands.specs.command_answers.Promises.{Promise, OfOneText}

-- These are the lines of a source's tasks, behind them the greatest needs with the source's bound. The image that is compiled of the source has the layout
-- of which the lines tell, and the law of images holds of it: so a charge that holds the needs of the next n tasks has n completions. The image that works in
-- place has the same places, and it holds of that with what the lines `undo` say
pub record IsScope (source : List ℕ) (program : CheckedProgram) (allow : Allow) (output : List ℕ) : Type 0 where
  pub rows : List NeedRow
  pub needs : AreNeedsOf source program allow rows
  pub lines : output ≡ needs_text rows allow.cycles
  pub lawful : (image : ImageValue) → IsCompiled source program allow image → IsLawful source program allow needs.layout image
  pub lawful_in_place : (image : ImageValue) → IsCompiledFor Undo source program allow image
      → IsLawful source program allow (logged_map needs.layout) image

-- the text is a source, and these are the lines of its tasks
pub record Scopes (source output : List ℕ) : Type 0 where
  pub program : CheckedProgram
  pub allow : Allow
  pub accepted : IsAcceptedText source program allow
  pub scope : IsScope source program allow output

-- What it promises. A source with functions is refused as one that isn't compiled yet.
abbrev pub bounds_promise : (source : List ℕ) → Promise
bounds_promise source = record {
  reads = source ∷ [];
  judges = source ∷ [];
  puts = None;
  takes = OfOneText SaysSource;
  makes = λ texts p. OfOneText (λ s. Scopes s p.output × (p.file ≡ None) × (p.ending ≡ well)) texts;
  refuses = λ texts place r. OfOneText (λ s. RefusesSource s r × (place ≡ 0)) texts;
}
