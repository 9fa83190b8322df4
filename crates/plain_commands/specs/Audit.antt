-- What `audit` makes of its texts.
use Rattle.std.specs.Prelude.{◌≡◌, ℕ, List, [], ◌∷◌, None, Ok, codes}
use Rattle.command_texts.specs.energy_trace.TraceValue.{TraceValue}
use Rattle.command_texts.specs.energy_trace.Reading.{trace_of}
use Rattle.command_texts.specs.cost_bound.declared.allowance.Allow.{Allow}
use Rattle.command_texts.specs.source_meaning.Acceptance.{IsAcceptedText}
use Rattle.command_texts.specs.source_meaning.Events.{HasEvent, HasNoEvent}
use Rattle.source_values.specs.Runs.{CheckedProgram}
use Rattle.report_audit.specs.declared.verdict.Verdict.{Verdict}
use Rattle.report_audit.specs.Good.{IsVerdict}
use Rattle.command_texts.specs.command_answers.Ending.{Ending}
use Rattle.command_texts.specs.command_answers.Refusals.{Refusal, plain}
use Rattle.command_texts.specs.Sources.{IsSourceText, RefusesSource, SaysSourceWithoutEvents}
use Rattle.command_texts.specs.Texts.{RefusesTrace, SaysTrace}
use Rattle.plain_commands.specs.Verdicts.{verdict_line, verdict_ending}
use Rattle.command_texts.specs.command_answers.Promises.{Promise, OfThreeTexts}

-- the texts are a source without `next_event`, accepted as this program alone, and a trace; this is what an audit of the report by them
-- says, and its line
pub record Audits (source report trace : List ℕ) (ending : Ending) (output : List ℕ) : Type 0 where
  pub program : CheckedProgram
  pub allow : Allow
  pub value : TraceValue
  pub verdict : Verdict
  pub accepted : IsAcceptedText source program allow
  pub only : (other : CheckedProgram) (price : Allow) → IsAcceptedText source other price → (other ≡ program) × (price ≡ allow)
  pub no_event : HasNoEvent source
  pub trace_said : trace_of trace ≡ Ok value
  pub says : IsVerdict source program allow.cycles value.readings report verdict
  pub ends : ending ≡ verdict_ending verdict
  pub line : output ≡ verdict_line verdict

-- the source has a `next_event`, whose answers no report carries: the first one's line is told
abbrev pub HasEventAt : List ℕ → Refusal → Type 0
HasEventAt source r = (line : ℕ) × HasEvent source line × (r ≡ plain line (codes "Events"))

-- the text of `audit` at this place, from 0, is the first that is refused, and so; it refuses no report, and a `next_event` only behind
-- what else the texts are refused for
pub data AuditRefuses (source trace : List ℕ) : ℕ → Refusal → Type 0 where
  the_audits_source : (r : Refusal) → RefusesSource source r → AuditRefuses source trace 0 r
  the_audits_trace : (program : CheckedProgram) (r : Refusal) → IsSourceText source program → RefusesTrace trace r → AuditRefuses source trace 2 r
  the_audits_events : (program : CheckedProgram) (r : Refusal) → IsSourceText source program → SaysTrace trace → HasEventAt source r
      → AuditRefuses source trace 0 r

-- what it promises
abbrev pub audit_promise : (source report trace : List ℕ) → Promise
audit_promise source report trace = record {
  reads = source ∷ report ∷ trace ∷ [];
  judges = source ∷ report ∷ trace ∷ [];
  puts = None;
  takes = OfThreeTexts (λ s r t. SaysSourceWithoutEvents s × SaysTrace t);
  makes = λ texts p. OfThreeTexts (λ s r t. Audits s r t p.ending p.output × (p.file ≡ None)) texts;
  refuses = λ texts place x. OfThreeTexts (λ s r t. AuditRefuses s t place x) texts;
}
