-- How a verdict is told, and how a command ends that gave it.
use Rattle.std.specs.Prelude.{ℕ, List, [], ◌∷◌, codes, decimal}
use Rattle.command_texts.specs.alp_io.Report.{texts}
use Rattle.report_audit.specs.declared.verdict.Verdict.{Verdict}
use Rattle.report_audit.specs.declared.verdict.Verdict.TheVariants.{Yes, No}
use Rattle.command_texts.specs.command_answers.Ending.{Ending, well, differs}

-- `yes T`, with the number of transitions; or `no LINE`
unfoldable pub verdict_line : Verdict → List ℕ
verdict_line (Yes t) = texts (codes "yes " ∷ decimal t ∷ codes "\n" ∷ [])
verdict_line (No line) = texts (codes "no " ∷ decimal line ∷ codes "\n" ∷ [])

-- how `audit` ends with a verdict
abbrev pub verdict_ending : Verdict → Ending
verdict_ending (Yes t) = well
verdict_ending (No line) = differs
