-- Texts are accepted or refused, not both.
use Rattle.std.proofs.Common.{ℕ, List}
use Rattle.plain_commands.specs.command_answers.Refusals.{Refusal}
use Rattle.plain_commands.specs.command_texts.Sources.{SaysSource}
use Rattle.plain_commands.specs.command_texts.Texts.{SaysTrace}
use Rattle.plain_commands.proofs.command_texts.Interface.{no_trace, SourcesExclude}
use Rattle.compiler_commands.specs.Try.{TryRefuses, the_tried_source, the_tried_trace}

pub no_try : SourcesExclude → (source trace : List ℕ) (place : ℕ) (r : Refusal) → SaysSource source × SaysTrace trace
    → TryRefuses source trace place r → ⊥
no_try law source trace place r (said, traced) (the_tried_source x fails) = law source said.0 r said.1 fails
no_try law source trace place r (said, traced) (the_tried_trace p x other fails) = no_trace trace r traced fails
