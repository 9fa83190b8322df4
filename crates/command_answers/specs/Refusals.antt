-- What the line of a refused text says of it.
use Rattle.std.specs.Prelude.{ℕ, List, [], ◌∷◌, codes, decimal}
use Rattle.alp_io.specs.Report.{texts}
use Rattle.alp_text.specs.Numbers.{hex4}
use Rattle.alp_text.specs.declared.lines.Span.{Span}
use Rattle.source_report.specs.SourceReport.{spelled}
use Rattle.command_answers.specs.FileNames.{told_name}

-- what a fault keeps besides its line: nothing, a name, a number, or an address
pub data Detail : Type 0 where
  nothing : Detail
  name : List ℕ → Detail
  number : ℕ → Detail
  address : ℕ → Detail

-- the line, from 1, or 0 where the fault is of the whole text; the kind; and what is kept
pub record Refusal : Type 0 where
  pub line : ℕ
  pub kind : List ℕ
  pub detail : Detail

-- a refusal that keeps its line and kind alone
abbrev pub plain : ℕ → List ℕ → Refusal
plain line kind = record { line = line; kind = kind; detail = nothing }

-- a refusal that keeps a name of the text
abbrev pub named : List ℕ → ℕ → List ℕ → Span → Refusal
named text line kind span = record { line = line; kind = kind; detail = name (spelled text span) }

-- a space and the name, the number or the four digits of the address, if one is kept
abbrev pub detail_text : Detail → List ℕ
detail_text nothing = []
detail_text (name bytes) = 32 ∷ bytes
detail_text (number n) = 32 ∷ decimal n
detail_text (address a) = 32 ∷ hex4 a

-- the line where a text is refused
unfoldable pub refused_line : List ℕ → Refusal → List ℕ
refused_line file r =
    texts (codes "refused " ∷ told_name file ∷ codes " " ∷ decimal r.line ∷ codes " " ∷ r.kind ∷ detail_text r.detail ∷ codes "\n" ∷ [])
