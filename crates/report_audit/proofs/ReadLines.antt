-- The line that is read at a front is the first of what is left; and where none is read, nothing is left.
use Rattle.std.proofs.Common.{◌≡◌, ◌≤◌, ℕ, ◌+◌, ◌-◌, Bool, true, false, if◌then◌else◌, nat_lt, List, length, take, drop, arith, refl, ap, subst, Option, Some}
use Rattle.std.proofs.Common.{None}
use Rattle.std.proofs.lemmas.List.{drop_all}
use Rattle.std.proofs.lemmas.Bool.Decides.{nat_tests}
use Rattle.alp_text.specs.declared.lines.Span.{Span}
use Rattle.alp_text.specs.Lines.{line_len, line_at}
use Rattle.text_parts.specs.Fields.{fields}
use Rattle.report_audit.specs.Fronts.{first_line}
use Rattle.report_audit.proofs.Forced.{says}

-- the line there, where the test says that there is one
abbrev found : List ℕ → ℕ → Bool → Option Span
found report at b = if b then Some (record { from = at; to = at + line_len (drop at report) }) else None

by_found : (report : List ℕ) (at : ℕ) (line : Span) (b : Bool) → found report at b ≡ Some line
    → take (line.to - line.from) (drop line.from report) ≡ first_line (drop at report)
by_found report at line true e =
    let same : record { from = at; to = at + line_len (drop at report) } ≡ line = cc e in
    let P : Span → Type 0 = λ x. take (x.to - x.from) (drop x.from report) ≡ first_line (drop at report) in
    let len : at + line_len (drop at report) - at ≡ line_len (drop at report) = omega arith in
    subst P same (ap (λ n. take n (drop at report)) len)
by_found report at line false e = absurd (cc e)

pub line_read : (report : List ℕ) (at : ℕ) (line : Span) → line_at report at ≡ Some line
    → take (line.to - line.from) (drop line.from report) ≡ first_line (drop at report)
line_read report at line e = by_found report at line (nat_lt at (length report)) e

past_end : (report : List ℕ) (at : ℕ) (b : Bool) → nat_lt at (length report) ≡ b → found report at b ≡ None → length report ≤ at
past_end report at true is none = absurd (cc none)
past_end report at false is none = grind (arith, nat_tests, is)

pub none_read : (report : List ℕ) (at : ℕ) → line_at report at ≡ None → says (drop at report) ≡ None
unfolding fields
none_read report at e = ap says (drop_all at report (past_end report at (nat_lt at (length report)) refl e))
