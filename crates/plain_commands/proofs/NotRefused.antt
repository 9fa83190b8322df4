-- Texts are accepted or refused, not both.
use Rattle.std.proofs.Common.{ℕ, List}
use Rattle.command_texts.specs.command_answers.Refusals.{Refusal}
use Rattle.command_texts.specs.Sources.{SaysSource, SaysSourceWithoutEvents}
use Rattle.command_texts.specs.Texts.{SaysTrace, SaysImage}
use Rattle.plain_commands.specs.Mean.{MeanRefuses, the_source, its_trace}
use Rattle.plain_commands.specs.Run.{RunRefuses, the_image, the_trace}
use Rattle.plain_commands.specs.Audit.{AuditRefuses, the_audits_source, the_audits_trace, the_audits_events}
use Rattle.command_texts.proofs.Interface.{no_trace, no_image, one_or_none, SourcesExclude}

pub no_mean : SourcesExclude → (source trace : List ℕ) (place : ℕ) (r : Refusal) → SaysSource source × SaysTrace trace
    → MeanRefuses source trace place r → ⊥
no_mean law source trace place r said (the_source x fails) = law source said.0.0 r said.0.1 fails
no_mean law source trace place r said (its_trace p x other fails) = no_trace trace r said.1 fails

pub no_run : (image trace : List ℕ) (place : ℕ) (r : Refusal) → SaysImage image × SaysTrace trace → RunRefuses image trace place r → ⊥
no_run image trace place r said (the_image x fails) = no_image image r said.0 fails
no_run image trace place r said (the_trace i x other fails) = no_trace trace r said.1 fails

pub no_audit : SourcesExclude → (source trace : List ℕ) (place : ℕ) (r : Refusal) → SaysSourceWithoutEvents source × SaysTrace trace
    → AuditRefuses source trace place r → ⊥
no_audit law source trace place r ((said, none), traced) (the_audits_source x fails) = law source said.0 r said.1 fails
no_audit law source trace place r (said, traced) (the_audits_trace p x other fails) = no_trace trace r traced fails
no_audit law source trace place r ((said, none), traced) (the_audits_events p x other trace_is has) = one_or_none source has.0 none has.1
