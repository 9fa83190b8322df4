-- What `mean` prints is a report that its source could have told; and `audit` answers so.
use Rattle.std.specs.Prelude.{◌≡◌, ℕ, List}
use Rattle.report_audit.specs.declared.verdict.Verdict.TheVariants.{Yes}
use Rattle.report_audit.specs.Good.{IsGoodReport}
use Rattle.command_texts.specs.command_answers.Ending.{Ending, well}
use Rattle.plain_commands.specs.Mean.{Means}
use Rattle.plain_commands.specs.Audit.{Audits}
use Rattle.plain_commands.specs.Verdicts.{verdict_line}

-- the report of `mean` is good, by the source and the trace that it was made of
abbrev pub MeanReportsAreGood : Type 0
MeanReportsAreGood = (source trace output : List ℕ) (m : Means source trace output)
    → (n : ℕ) × IsGoodReport source m.program m.source_said.allow.cycles m.value.readings output n

-- whatever an audit of the report by this source and this trace says, it is `yes`
abbrev pub IsAnsweredYes : List ℕ → List ℕ → List ℕ → Type 0
IsAnsweredYes source trace report = (ending : Ending) (line : List ℕ) → Audits source report trace ending line
    → (n : ℕ) × (ending ≡ well) × (line ≡ verdict_line (Yes n))

-- of the report of `mean` on a source and a trace
abbrev pub MeanReportsAreAnsweredYes : Type 0
MeanReportsAreAnsweredYes = (source trace output : List ℕ) → Means source trace output → IsAnsweredYes source trace output
