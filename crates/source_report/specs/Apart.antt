-- Spans in order and apart.
use Rattle.std.specs.Prelude.{ℕ, ◌≤◌, List, [], ◌∷◌}
use Rattle.source_report.specs.SourceReport.{Committed}

-- each span begins where the one before it ended or behind that, at first at `from` or behind it, and none passes the end
abbrev pub AreApart : ℕ → ℕ → List Committed → Type 0
AreApart from end [] = Unit {0}
AreApart from end (span ∷ spans) = (from ≤ span.from) × (span.from ≤ span.to) × (span.to ≤ end) × AreApart span.to end spans
